use Rattle.frame_verdict.proofs.PlainCertificates.{plain_certificates}
use Rattle.frame_verdict.proofs.plain.plain_certificates.Goals as goal

pub returns : goal.returns
returns c = plain_certificates
