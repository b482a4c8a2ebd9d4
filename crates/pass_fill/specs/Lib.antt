-- What the contracts cite, and the words of the request.
pub mod CodeOn
pub mod Filled
