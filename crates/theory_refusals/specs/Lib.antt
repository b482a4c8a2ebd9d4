-- What the service may be asked, its cases, and its answers.
pub mod PublicCalls
