-- The keys and the data of one chain, and what stays of them where other blocks change.
use Rattle.std.proofs.Common.{◌≡◌, ◌≢◌, ℕ, zero, suc, ◌+◌, ◌*◌, ◌<◌, ◌≤◌, Bool, List, [], ◌∷◌, ◌++◌, length, get_or}
use Rattle.std.proofs.Common.{take, cond, eqb, refl, sym, ap, ◌∙◌, arith, length-append, eq-eqb}
use Rattle.std.proofs.lemmas.Bool.{ne_eqb}
use Rattle.std.proofs.lemmas.List.Concat.{flat_map-cons}
use Rattle.std.proofs.lemmas.List.Sums.{sum_by-cons}
use Rattle.slab.specs.Slab.{Slab}
use Rattle.njh_record.specs.Bytes.{field, with_field}
use Rattle.njh_spool.specs.declared.store.spool_block.SpoolBlock.{SpoolBlock}
use Rattle.njh_spool.specs.code.ChainedBlocks.{next_at, data_at, keys_from, data_of, times_in}
use Rattle.njh_spool.proofs.ChainLists.{with_field-left, with_field-right, drop-right, field-left}

pub times-cons : (key k : ℕ) (rest : List ℕ)
    → times_in key (k ∷ rest) ≡ cond {A = ℕ} (eqb k key) 1 0 + times_in key rest
times-cons key k rest = sum_by-cons (λ x. cond {A = ℕ} (eqb x key) 1 0) k rest

pub one_itself : (k : ℕ) → cond {A = ℕ} (eqb k k) 1 0 ≡ 1
one_itself k = ap (λ (b : Bool). cond {A = ℕ} b 1 0) (eq-eqb k k refl)

pub one_other : (k key : ℕ) → k ≢ key → cond {A = ℕ} (eqb k key) 1 0 ≡ 0
one_other k key differ = ap (λ (b : Bool). cond {A = ℕ} b 1 0) (ne_eqb k key differ)

pub times_at : (keys : List ℕ) (i : ℕ) → i < length keys → 0 < times_in (get_or keys i 0) keys
times_at [] i within = absurd (omega arith)
times_at (k ∷ rest) zero within = omega (arith, times-cons k k rest, one_itself k)
times_at (k ∷ rest) (suc i) within = omega (arith, times-cons (get_or rest i 0) k rest, times_at rest i (omega arith))

pub length-keys_from : (s : Slab SpoolBlock) (n key : ℕ) → length (keys_from s n key) ≡ n
length-keys_from s zero key = refl
length-keys_from s (suc n) key = omega (arith, length-keys_from s n (next_at s key))

-- the chain stays where its blocks' links stay
pub keys_from-same : (s t : Slab SpoolBlock) (n key : ℕ)
    → ((k : ℕ) → 0 < times_in k (keys_from s n key) → next_at t k ≡ next_at s k)
    → keys_from t n key ≡ keys_from s n key
keys_from-same s t zero key same = refl
keys_from-same s t (suc n) key same =
    let rest = keys_from s n (next_at s key) in
    let here = same key (omega (arith, times-cons key key rest, one_itself key)) in
    let later = keys_from-same s t n (next_at s key) (λ k in_rest. same k (omega (arith, times-cons k key rest))) in
    ap (λ x. key ∷ keys_from t n x) here ∙ ap (λ xs. key ∷ xs) later

pub data_of-same : (s t : Slab SpoolBlock) (keys : List ℕ)
    → ((k : ℕ) → 0 < times_in k keys → data_at t k ≡ data_at s k) → data_of t keys ≡ data_of s keys
data_of-same s t [] same = refl
data_of-same s t (k ∷ rest) same =
    let here = same k (omega (arith, times-cons k k rest, one_itself k)) in
    let later = data_of-same s t rest (λ j in_rest. same j (omega (arith, times-cons j k rest))) in
    flat_map-cons (data_at t) k rest ∙ ap (λ xs. xs ++ data_of t rest) here ∙ ap (λ xs. data_at s k ++ xs) later
    ∙ sym (flat_map-cons (data_at s) k rest)

pub length-data_of : (s : Slab SpoolBlock) (keys : List ℕ)
    → ((k : ℕ) → 0 < times_in k keys → length (data_at s k) ≡ 252) → length (data_of s keys) ≡ 252 * length keys
length-data_of s [] full = refl
length-data_of s (k ∷ rest) full =
    let here = full k (omega (arith, times-cons k k rest, one_itself k)) in
    let later = length-data_of s rest (λ j in_rest. full j (omega (arith, times-cons j k rest))) in
    let sum = ap length (flat_map-cons (data_at s) k rest) in
    omega (arith, length-append (data_at s k) (data_of s rest))

-- a chain whose last block is linked to another
pub keys_from-linked : (s t : Slab SpoolBlock) (n key last k : ℕ) → get_or (keys_from s (suc n) key) n 0 ≡ last →
    times_in last (keys_from s (suc n) key) ≤ 1 → next_at t last ≡ k →
    ((j : ℕ) → j ≢ last → 0 < times_in j (keys_from s (suc n) key) → next_at t j ≡ next_at s j)
    → keys_from t (suc (suc n)) key ≡
    keys_from s (suc n) key ++ k ∷ []
keys_from-linked s t zero key last k is once link same = ap (λ x. key ∷ x ∷ []) (ap (next_at t) is ∙ link)
keys_from-linked s t (suc n) key last k is once link same =
    let rest = keys_from s (suc n) (next_at s key) in
    let in_rest = times_at rest n (omega (arith, length-keys_from s (suc n) (next_at s key))) in
    let last_in_rest : 0 < times_in last rest = rw is at in_rest in
    let apart : key ≢ last =
    λ e. omega (arith, times-cons last key rest, one_itself last, ap (λ x. cond {A = ℕ} (eqb x last) 1 0) e) in
    let here = same key apart (omega (arith, times-cons key key rest, one_itself key)) in
    let later = keys_from-linked s t n (next_at s key) last k is (omega (arith, times-cons last key rest)) link
    (λ j differ within. same j differ (omega (arith, times-cons j key rest))) in
    ap (λ x. key ∷ keys_from t (suc (suc n)) x) here ∙ ap (λ xs. key ∷ xs) later

-- bytes written in one block of a chain
pub data_of-put : (s t : Slab SpoolBlock) (keys : List ℕ) (b k place : ℕ) (new : List ℕ) → b < length keys
    → get_or keys b 0 ≡ k →
    times_in k keys ≤ 1 → ((j : ℕ) → 0 < times_in j keys → length (data_at s j) ≡ 252) → place + length new ≤ 252 →
    data_at t k ≡ with_field place new (data_at s k) → ((j : ℕ) → j ≢ k → data_at t j ≡ data_at s j)
    → data_of t keys ≡ with_field
    (252 * b + place) new (data_of s keys)
data_of-put s t [] b k place new within is once full fits put same = absurd (omega arith)
data_of-put s t (k0 ∷ rest) zero k place new within is once full fits put same =
    let none : times_in k rest ≡ 0 =
    omega (arith, times-cons k k0 rest, one_itself k, ap (λ x. cond {A = ℕ} (eqb x k) 1 0) is) in
    let later = data_of-same s t rest (λ j in_rest. same j (λ e. omega (arith, ap (λ x. times_in x rest) e))) in
    let here : data_at t k0 ≡ with_field place new (data_at s k0) = ap (data_at t) is ∙ put
    ∙ ap (λ x. with_field place new (data_at s x)) (sym is) in
    let long = full k0 (omega (arith, times-cons k0 k0 rest, one_itself k0)) in
    let sum : 252 * 0 + place ≡ place = omega arith in
    flat_map-cons (data_at t) k0 rest ∙ ap (λ xs. xs ++ data_of t rest) here
    ∙ ap (λ xs. with_field place new (data_at s k0)
    ++ xs) later ∙ sym (with_field-left place new (data_at s k0) (data_of s rest) (omega arith))
    ∙ ap (with_field place new)
    (sym (flat_map-cons (data_at s) k0 rest)) ∙ ap (λ p. with_field p new (data_of s (k0 ∷ rest))) (sym sum)
data_of-put s t (k0 ∷ rest) (suc b) k place new within is once full fits put same =
    let in_rest = times_at rest b (omega arith) in
    let k_in_rest : 0 < times_in k rest = rw is at in_rest in
    let apart : k0 ≢ k =
    λ e. omega (arith, times-cons k k0 rest, one_itself k, ap (λ x. cond {A = ℕ} (eqb x k) 1 0) e) in
    let here = same k0 apart in
    let later = data_of-put s t rest b k place new (omega arith) is (omega (arith, times-cons k k0 rest))
    (λ j h. full j (omega (arith, times-cons j k0 rest))) fits put same in
    let long = full k0 (omega (arith, times-cons k0 k0 rest, one_itself k0)) in
    let sum : 252 * suc b + place ≡ 252 + (252 * b + place) = omega arith in
    flat_map-cons (data_at t) k0 rest ∙ ap (λ xs. xs ++ data_of t rest) here ∙ ap (λ xs. data_at s k0 ++ xs) later
    ∙ sym (with_field-right 252 (252 * b + place) new (data_at s k0) (data_of s rest) long)
    ∙ ap (with_field (252 + (252 * b + place)) new) (sym (flat_map-cons (data_at s) k0 rest))
    ∙ ap (λ p. with_field p new (data_of s (k0 ∷ rest))) (sym sum)

-- bytes that lie in one block of a chain
pub field-data_of : (s : Slab SpoolBlock) (keys : List ℕ) (b k place n : ℕ) → b < length keys → get_or keys b 0 ≡ k →
    ((j : ℕ) → 0 < times_in j keys → length (data_at s j) ≡ 252) → place + n ≤ 252
    → field (252 * b + place) n (data_of s keys) ≡
    field place n (data_at s k)
field-data_of s [] b k place n within is full fits = absurd (omega arith)
field-data_of s (k0 ∷ rest) zero k place n within is full fits =
    let long = full k0 (omega (arith, times-cons k0 k0 rest, one_itself k0)) in
    let sum : 252 * 0 + place ≡ place = omega arith in
    ap (λ p. field p n (data_of s (k0 ∷ rest))) sum ∙ ap (field place n) (flat_map-cons (data_at s) k0 rest)
    ∙ field-left place n (data_at s k0) (data_of s rest) (omega arith) ∙ ap (λ x. field place n (data_at s x)) is
field-data_of s (k0 ∷ rest) (suc b) k place n within is full fits =
    let long = full k0 (omega (arith, times-cons k0 k0 rest, one_itself k0)) in
    let sum : 252 * suc b + place ≡ 252 + (252 * b + place) = omega arith in
    let later =
    field-data_of s rest b k place n (omega arith) is (λ j h. full j (omega (arith, times-cons j k0 rest))) fits in
    ap (λ p. field p n (data_of s (k0 ∷ rest))) sum
    ∙ ap (field (252 + (252 * b + place)) n) (flat_map-cons (data_at s) k0 rest)
    ∙ ap (take n) (drop-right 252 (252 * b + place) (data_at s k0) (data_of s rest) long) ∙ later
