pub mod CertificateViews
pub mod Climbing
pub mod Faults
pub mod Tests
