-- Fields of bytes, of parts of bytes and of bytes put together.
use Rattle.std.proofs.Common.{◌≡◌, ℕ, ◌+◌, ◌/◌, ◌%◌, ◌<◌, ◌≤◌, List, ◌∷◌, ◌++◌, length, take, get_or, sym, ◌∙◌, ap}
use Rattle.std.proofs.Common.{arith}
use Rattle.std.proofs.lemmas.List.{get_or-take, get_or_append_left, get_or_at, get_or-append-add, take_at, drop_at}
use Rattle.njh_record.specs.Bytes.{field, number_at, two_bytes}

pub number_at-take : (place n : ℕ) (bytes : List ℕ) → place + 2 ≤ n
    → number_at place (take n bytes) ≡ number_at place bytes
number_at-take place n bytes within =
    let high = get_or-take n bytes place 0 (omega arith) in
    let low = get_or-take n bytes (place + 1) 0 (omega arith) in
    omega arith

pub number_at-append : (place : ℕ) (bytes more : List ℕ) → place + 2 ≤ length bytes
    → number_at place (bytes ++ more) ≡ number_at place bytes
number_at-append place bytes more within =
    let high = get_or_append_left bytes more 0 place (omega arith) in
    let low = get_or_append_left bytes more 0 (place + 1) (omega arith) in
    omega arith

-- a field that comes after some bytes
pub field_at : (before inner after : List ℕ) (place size : ℕ) → length before ≡ place → length inner ≡ size
    → field place size (before ++ (inner ++ after)) ≡ inner
field_at before inner after place size e f = ap (take size) (drop_at before (inner ++ after) place e)
    ∙ take_at inner after size f

-- a number that comes after some bytes
pub number_at-two_bytes : (before after : List ℕ) (place n : ℕ) → length before ≡ place → n < 65536
    → number_at place (before ++ (two_bytes n ++ after)) ≡ n
number_at-two_bytes before after place n e small =
    let high = get_or_at before (n / 256 % 256) (n % 256 ∷ after) 0 place e in
    let low : get_or (before ++ (two_bytes n ++ after)) (place + 1) 0 ≡ n % 256 =
    ap (λ (p : ℕ). get_or (before ++ (two_bytes n ++ after)) (p + 1) 0) (sym e)
    ∙ get_or-append-add before (two_bytes n ++ after) 1 0 in
    omega arith
