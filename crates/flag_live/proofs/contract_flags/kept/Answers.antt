use Rattle.flag_live.proofs.ContractFlags.{kept_is}
use Rattle.flag_live.proofs.contract_flags.kept.Goals as goal

pub returns : goal.returns
returns c = kept_is c.args.contract.now.flags
