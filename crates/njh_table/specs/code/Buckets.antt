-- Where a name is looked for among others: in the bucket that its bytes say, from the last that came on.
use Rattle.std.specs.Prelude.{◌≡◌, ℕ, zero, suc, ◌%◌, ◌<◌, ◌==◌, cond, List, [], length, slice_index, slice_index_or}
use Rattle.std.specs.Int.{w64, from_be_bytes}
use Rattle.njh_table.specs.declared.nodes.TheConstants.{BUCKETS}

-- the bucket of a name
unfoldable pub bucket_of : List ℕ → ℕ
bucket_of name = from_be_bytes w64 name % BUCKETS

-- that of one of some names
abbrev pub bucket_at : List (List ℕ) → ℕ → ℕ
bucket_at names k = bucket_of (slice_index_or names k [])

-- how many of the first names there are up to the last in a bucket: 0 where none is
unfoldable pub end_of : List (List ℕ) → ℕ → ℕ → ℕ
end_of names bucket zero = 0
end_of names bucket (suc n) = cond (bucket_at names n == bucket) (suc n) (end_of names bucket n)

-- Names, for each of them the end of its bucket before it, and the end of each bucket.
pub record IsIndexed (names : List (List ℕ)) (before ends : List ℕ) : Type 0 where
  pub count : length before ≡ length names
  pub each_before : (k : ℕ) → k < length names → slice_index before k ≡ end_of names (bucket_at names k) k
  pub each_end : (bucket : ℕ) → bucket < BUCKETS → slice_index ends bucket ≡ end_of names bucket (length names)
