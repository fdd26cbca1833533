pub mod CheapHash
