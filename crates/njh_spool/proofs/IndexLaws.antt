-- Slots and chains by a customer and a file's number.
use Rattle.std.proofs.Common.{◌≡◌, ◌≢◌, ℕ, ◌+◌, ◌*◌, ◌<◌, true, false, cond, eqb, ltb, List, length, get_or, set, refl}
use Rattle.std.proofs.Common.{ap, ◌∙◌, ◌⊎◌, inl, inr, arith, eq-eqb, ne_eqb}
use Rattle.std.proofs.Math.Path.{fun_ext}
use Rattle.std.proofs.lemmas.Bool.{cases_eq, cases_lt, lt-ltb, le-ltb, both_ways}
use Rattle.std.proofs.lemmas.List.{get_or-set_same, get_or-set_other}
use Rattle.njh_spool.specs.declared.file_slot.FileSlot.{FileSlot}
use Rattle.njh_spool.specs.code.Chains.{Chain, empty_chain}
use Rattle.njh_spool.specs.code.Slots.{Content, content, contents, slot_of, chain_of, free_slot, is_free}

-- of a list, what a customer has at a number
abbrev at : {X : Type 0} → List X → X → ℕ → ℕ → X
at xs d c n = cond (ltb n 1024) (get_or xs (1024 * c + n) d) d

pub at_is : {X : Type 0} (xs : List X) (d : X) (c n : ℕ) → n < 1024 → at xs d c n ≡ get_or xs (1024 * c + n) d
at_is xs d c n small = rw (lt-ltb n 1024 small) refl

at_same : {X : Type 0} (xs : List X) (x d : X) (c n : ℕ) → n < 1024 → 1024 * c + n < length xs
    → at (set xs (1024 * c + n) x) d c n ≡ x
at_same xs x d c n small within = rw (lt-ltb n 1024 small) (get_or-set_same xs (1024 * c + n) x d within)

at_other : {X : Type 0} (xs : List X) (x d : X) (c n e m : ℕ) → n < 1024 → (e ≢ c) ⊎ (m ≢ n)
    → at (set xs (1024 * c + n) x) d e
    m ≡ at xs d e m
at_other xs x d c n e m small apart =
    elim (cases_lt m 1024) [
      | inl below ↦
          rw (lt-ltb m 1024 below) (
          get_or-set_other xs (1024 * c + n) (1024 * e + m) x d (λ same.
          elim apart [
            | inl customers ↦ customers (omega arith)
            | inr numbers ↦ numbers (omega arith)
          ])
          )
      | inr above ↦ rw (le-ltb m 1024 above) refl
    ]

-- a slot in which a file is has a small number
pub small_used : (slots : List FileSlot) (c n : ℕ) → is_free (slot_of slots c n).stage ≡ false → n < 1024
small_used slots c n used =
    elim (cases_lt n 1024) [
      | inl below ↦ below
      | inr above ↦
          let free : is_free (slot_of slots c n).stage ≡ true = rw (le-ltb n 1024 above) refl in
          absurd (both_ways (is_free (slot_of slots c n).stage) used free)
    ]

-- files by their numbers, with another at one
abbrev pub put : (ℕ → Content) → ℕ → Content → ℕ → Content
put files n x m = cond (eqb m n) x (files m)

pub put_same : (files : ℕ → Content) (n : ℕ) (x : Content) → put files n x n ≡ x
put_same files n x = rw (eq-eqb n n refl) refl

pub put_again : (files : ℕ → Content) (n : ℕ) → put files n (files n) ≡ files
put_again files n =
    fun_ext (λ m.
    elim (cases_eq m n) [
      | inl same ↦ rw (same, eq-eqb n n refl) refl
      | inr other ↦ rw (ne_eqb m n other) refl
    ])

module _ (slots : List FileSlot) (chains : List Chain) (c n : ℕ) (slot : FileSlot) (chain : Chain) (small : n < 1024)
    (has_slot : 1024 * c + n < length slots) (has_chain : 1024 * c + n < length chains) where
  abbrev slots' : List FileSlot
  slots' = set slots (1024 * c + n) slot

  abbrev chains' : List Chain
  chains' = set chains (1024 * c + n) chain

  pub slot-same : slot_of slots' c n ≡ slot
  slot-same = at_same slots slot free_slot c n small has_slot

  pub chain-same : chain_of chains' c n ≡ chain
  chain-same = at_same chains chain empty_chain c n small has_chain

  pub slot-other : (e m : ℕ) → (e ≢ c) ⊎ (m ≢ n) → slot_of slots' e m ≡ slot_of slots e m
  slot-other e m apart = at_other slots slot free_slot c n e m small apart

  pub chain-other : (e m : ℕ) → (e ≢ c) ⊎ (m ≢ n) → chain_of chains' e m ≡ chain_of chains e m
  chain-other e m apart = at_other chains chain empty_chain c n e m small apart

  pub contents-same : contents slots' chains' c ≡ put (contents slots chains c) n (content slot chain)
  contents-same =
      fun_ext (λ m.
      elim (cases_eq m n) [
        | inl same ↦
            let here : contents slots' chains' c n ≡ content slot chain =
            ap (λ (s : FileSlot). content s (chain_of chains' c n)) slot-same ∙ ap (content slot) chain-same in
            rw (same, eq-eqb n n refl) here
        | inr other ↦
            let there : contents slots' chains' c m ≡ contents slots chains c m =
            ap (λ (s : FileSlot). content s (chain_of chains' c m)) (slot-other c m (inr other))
            ∙ ap (content (slot_of slots c m)) (chain-other c m (inr other)) in
            rw (ne_eqb m n other) there
      ])

  pub contents-other : (e : ℕ) → e ≢ c → contents slots' chains' e ≡ contents slots chains e
  contents-other e apart =
      fun_ext (λ m. ap (λ (s : FileSlot). content s (chain_of chains' e m)) (slot-other e m (inl apart))
      ∙ ap (content (slot_of slots e m)) (chain-other e m (inl apart)))
