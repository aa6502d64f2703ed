-- The theorems of a merged frame, whose proofs rest on those of specs/Side16, Side32 and Spatial/Side16.
pub mod MergedClose
