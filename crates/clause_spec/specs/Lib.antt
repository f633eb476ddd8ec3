pub mod Clauses
pub mod UnitPropagation
pub mod Refutation
pub mod Empowering
pub mod Certificates
pub mod CertificateGrammar
pub mod CertificateLaws
pub mod Checks
