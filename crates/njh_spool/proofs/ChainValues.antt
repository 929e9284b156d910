-- The store's value with another chain in the place of one.
use Rattle.std.proofs.Common.{◌≡◌, ℕ, ◌+◌, ◌*◌, ◌<◌, ◌≤◌, List, ◌++◌, length, take, sym, ap, ◌∙◌, arith, rules}
use Rattle.std.proofs.Common.{append_assoc, length-append, length-take}
use Rattle.std.proofs.lemmas.List.{same_lists, places, get_or-set_same, set-set, length-set, take-take}
use Rattle.std.proofs.lemmas.List.Sums.{sum_by-set}
use Rattle.njh_record.specs.Bytes.{with_field}
use Rattle.njh_spool.specs.code.Chains.{Chain, StoreValue, Grows, empty_chain, chain_at, with_chain, with_bytes}
use Rattle.njh_spool.specs.code.Chains.{blocks_of, blocks_used}

pub chain_at-with_chain : (chain : ℕ) (changed : Chain) (store : StoreValue) → chain < length store.chains →
    chain_at chain (with_chain chain changed store) ≡ changed
chain_at-with_chain chain changed store within = get_or-set_same store.chains chain changed empty_chain within

pub with_chain-twice : (chain : ℕ) (first second : Chain) (store : StoreValue) → with_chain chain second
    (with_chain chain first store) ≡ with_chain chain second store
with_chain-twice chain first second store = ap (λ (chains : List Chain). record store { chains = chains })
    (set-set store.chains chain first second)

-- no other chain has changed
pub record Only (chain : ℕ) (old now : StoreValue) : Type 0 where
  pub is : now ≡ with_chain chain (chain_at chain now) old

pub Only-within : (chain : ℕ) (old now : StoreValue) → Only chain old now → chain < length old.chains
    → chain < length now.chains
Only-within chain old now only within =
    omega (arith, ap (λ (x : StoreValue). length x.chains) only.is, length-set old.chains chain (chain_at chain now))

pub Only-then : (chain : ℕ) (old now later : StoreValue) (changed : Chain) → Only chain old now
    → chain < length old.chains →
    later ≡ with_chain chain changed now → Only chain old later
Only-then chain old now later changed only within is =
    let here : chain_at chain later ≡ changed = ap (chain_at chain) is ∙ chain_at-with_chain chain changed now
    (Only-within chain old now only within) in
    record {
      is =
          is
          ∙ ap (with_chain chain changed) only.is
          ∙ with_chain-twice chain (chain_at chain now) changed old
          ∙ ap (λ (x : Chain). with_chain chain x old) (sym here);
    }

pub Only-chain : (chain : ℕ) (now later : StoreValue) (changed : Chain) → chain < length now.chains
    → later ≡ with_chain chain changed
    now → chain_at chain later ≡ changed
Only-chain chain now later changed within is = ap (chain_at chain) is ∙ chain_at-with_chain chain changed now within

pub with_field-two : (place : ℕ) (first second bytes : List ℕ) → place + length first + length second ≤ length bytes →
    with_field (place + length first) second (with_field place first bytes) ≡ with_field place (first ++ second) bytes
with_field-two place first second bytes within =
    same_lists _ _ (search (rules, places)) (λ i d h. grind (arith, places))

-- a string that is written over twice
pub with_bytes-two : (chain place : ℕ) (first second all : List ℕ) (store mid : StoreValue)
    → chain < length store.chains →
    mid ≡ with_bytes chain (with_field place first (chain_at chain store).bytes) store → first ++ second ≡ all →
    place + length first + length second ≤ length (chain_at chain store).bytes →
    with_bytes chain (with_field (place + length first) second (chain_at chain mid).bytes) mid ≡ with_bytes chain
    (with_field place all (chain_at chain store).bytes) store
with_bytes-two chain place first second all store mid within is both fits =
    let bytes = (chain_at chain store).bytes in
    let keys = (chain_at chain store).keys in
    let changed = Only-chain chain store mid (record { keys = keys; bytes = with_field place first bytes }) within is in
    ap (λ (c : Chain). with_chain chain (record {
      keys = c.keys;
      bytes =
          with_field (place + length first) second c.bytes;
    }) mid) changed
    ∙ ap (with_chain chain (record {
      keys = keys;
      bytes =
          with_field (place + length first) second (with_field place first bytes);
    })) is
    ∙ with_chain-twice chain (record { keys = keys; bytes = with_field place first bytes })
    (record { keys = keys; bytes = with_field (place + length first) second (with_field place first bytes) }) store
    ∙ ap (λ (bs : List ℕ). with_bytes chain bs store) (with_field-two place first second bytes fits
    ∙ ap (λ (new : List ℕ). with_field place new bytes) both)

-- the blocks in use with another string
pub blocks_used-with_chain : (chain : ℕ) (changed : Chain) (store : StoreValue) → chain < length store.chains →
    blocks_used (with_chain chain changed store) + blocks_of (chain_at chain store).bytes ≡ blocks_used
    store + blocks_of changed.bytes
blocks_used-with_chain chain changed store within =
    sum_by-set (λ (x : Chain). blocks_of x.bytes) store.chains chain changed empty_chain within

-- a string grows by these bytes, of which the last are still to come
pub record Appends (chain : ℕ) (bytes left : List ℕ) (old now : StoreValue) : Type 0 where
  pub only : Only chain old now
  pub come : (chain_at chain now).bytes ++ left ≡ (chain_at chain old).bytes ++ bytes
  pub keys : take (length (chain_at chain old).keys) (chain_at chain now).keys ≡ (chain_at chain old).keys
  pub filled : 0 < length left → length (chain_at chain now).bytes ≡ 252 * blocks_of (chain_at chain now).bytes

pub Appends-then : (chain : ℕ) (bytes left part after : List ℕ) (old now later : StoreValue)
    → Appends chain bytes left old now →
    chain < length old.chains → Grows chain part now later → part ++ after ≡ left
    → (0 < length after → length part ≡ 252) →
    Appends chain bytes after old later
Appends-then chain bytes left part after old now later appends within grows split whole =
    let changed : Chain = record { keys = (chain_at chain later).keys; bytes = (chain_at chain now).bytes ++ part } in
    let inside = Only-within chain old now appends.only within in
    let here = ap (λ (c : Chain). c.bytes) (Only-chain chain now later changed inside grows.after) in
    let m = length (chain_at chain old).keys in
    let n = length (chain_at chain now).keys in
    let fewer : m ≤ n = omega (arith, ap length appends.keys, length-take m (chain_at chain now).keys) in
    record {
      only = Only-then chain old now later changed appends.only within grows.after;
      come =
          ap (λ xs. xs ++ after) here
          ∙ append_assoc (chain_at chain now).bytes part after
          ∙ ap (λ xs. (chain_at chain now).bytes ++ xs) split
          ∙ appends.come;
      keys =
          sym (take-take m n (chain_at chain later).keys fewer)
          ∙ ap (take m) grows.keys
          ∙ appends.keys;
      filled = λ more.
          let size = whole more in
          let before = appends.filled (omega (arith, ap length split, length-append part after)) in
          omega (arith, ap length here, length-append (chain_at chain now).bytes part);
    }

-- the string with all its bytes takes no fewer blocks than with the first of them
pub fewer_blocks : (chain : ℕ) (first second : List ℕ) (store : StoreValue) → chain < length store.chains →
    blocks_used (with_bytes chain ((chain_at chain store).bytes ++ first) store) ≤ blocks_used (with_bytes chain
    ((chain_at chain store).bytes ++ (first ++ second)) store)
fewer_blocks chain first second store within =
    let changed = chain_at chain store in
    omega (
      arith,
      blocks_used-with_chain chain (record { keys = changed.keys; bytes = changed.bytes ++ first }) store within,
      blocks_used-with_chain chain (record { keys = changed.keys; bytes = changed.bytes ++ (first ++ second) }) store
          within,
      length-append changed.bytes first,
      length-append changed.bytes (first ++ second),
      length-append first second,
    )

-- a string that has grown grows again
module _ (chain : ℕ) (first second : List ℕ) (old now : StoreValue) (within : chain < length old.chains)
    (grows : Grows chain first old now) where
  abbrev grown : Chain
  grown = record { keys = (chain_at chain now).keys; bytes = (chain_at chain old).bytes ++ first }

  grown_is : chain_at chain now ≡ grown
  grown_is = Only-chain chain old now grown within grows.after

  pub grown_within : chain < length now.chains
  grown_within = omega (arith, ap (λ (x : StoreValue). length x.chains) grows.after, length-set old.chains chain grown)

  pub grown_capacity : now.capacity ≡ old.capacity
  grown_capacity = ap (λ (x : StoreValue). x.capacity) grows.after

  pub grown_blocks : blocks_used (with_bytes chain ((chain_at chain now).bytes ++ second) now) ≡ blocks_used
      (with_bytes chain
      ((chain_at chain old).bytes ++ (first ++ second)) old)
  grown_blocks =
      let bytes = ap (λ (c : Chain). length (c.bytes ++ second)) grown_is in
      let size = ap (λ (c : Chain). length c.bytes) grown_is in
      let mid = ap blocks_used grows.after in
      omega (
        arith,
        mid,
        size,
        bytes,
        blocks_used-with_chain chain grown old within,
        blocks_used-with_chain chain (record {
          keys = (chain_at chain now).keys;
          bytes = (chain_at chain now).bytes
              ++ second;
        }) now grown_within,
        blocks_used-with_chain chain
            (record { keys = (chain_at chain old).keys; bytes = (chain_at chain old).bytes ++ (first ++ second) }) old
            within,
        length-append ((chain_at chain old).bytes ++ first) second,
        length-append (chain_at chain old).bytes first,
        length-append (chain_at chain old).bytes (first ++ second),
        length-append first second,
      )

  pub grows_again : (later : StoreValue) → Grows chain second now later → Grows chain (first ++ second) old later
  grows_again later more =
      let keys = (chain_at chain later).keys in
      let m = length (chain_at chain old).keys in
      let n = length (chain_at chain now).keys in
      let fewer : m ≤ n = omega (arith, ap length grows.keys, length-take m (chain_at chain now).keys) in
      let bytes : (chain_at chain now).bytes ++ second ≡ (chain_at chain old).bytes ++ (first ++ second) =
      ap (λ (c : Chain). c.bytes ++ second) grown_is ∙ append_assoc (chain_at chain old).bytes first second in
      record {
        after =
            more.after
            ∙ ap (λ (xs : List ℕ). with_chain chain (record { keys = keys; bytes = xs }) now) bytes
            ∙ ap (with_chain chain (record { keys = keys; bytes = (chain_at chain old).bytes ++ (first ++ second) }))
            grows.after
            ∙ with_chain-twice chain grown
            (record { keys = keys; bytes = (chain_at chain old).bytes ++ (first ++ second) }) old;
        keys =
            sym (take-take m n keys fewer)
            ∙ ap (take m) more.keys
            ∙ grows.keys;
      }
