mod TableLemmas
mod ReadLemmas
