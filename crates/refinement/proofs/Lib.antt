pub mod Lists
pub mod Effects
pub mod NearLemmas
pub mod TouchLemmas
pub mod Changes
pub mod Alike
pub mod RefinementLemmas
