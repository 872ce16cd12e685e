mod AlarmLemmas
mod AsRead
mod ComponentLemmas
mod EventLemmas
mod Lists
mod NameLemmas
mod Vectors
