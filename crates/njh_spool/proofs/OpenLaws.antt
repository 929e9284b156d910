-- A spool that was just opened.
use Rattle.std.proofs.Common.{◌≡◌, ℕ, zero, suc, ◌+◌, ◌*◌, ◌<◌, ◌≤◌, true, false, cond, ltb, List, [], ◌∷◌, length}
use Rattle.std.proofs.Common.{get_or, map, sum_by, replicate, refl, sym, ap, subst, ◌∙◌, inl, inr, arith}
use Rattle.std.specs.Prelude.{All}
use Rattle.std.proofs.lemmas.Bool.{cases_lt, lt-ltb, le-ltb}
use Rattle.std.proofs.lemmas.List.{length-map, length-replicate, get_or-map}
use Rattle.std.proofs.lemmas.List.Sums.{sum_by-cons}
use Rattle.njh_spool.specs.declared.quota.Quota.{Quota}
use Rattle.njh_spool.specs.declared.file_slot.FileSlot.{FileSlot}
use Rattle.njh_spool.specs.declared.file_slot.Stage.TheVariants.{Free}
use Rattle.njh_spool.specs.declared.customer_files.CustomerFiles.{CustomerFiles}
use Rattle.njh_spool.specs.code.Chains.{Chain, StoreValue, empty_chain, blocks_of}
use Rattle.njh_spool.specs.CustomerSpool.{CustomerSpool, empty_spool}
use Rattle.njh_spool.specs.Quotas.{IsWithinLimits}
use Rattle.njh_spool.specs.Spools.{IsSound}
use Rattle.njh_spool.specs.code.Slots.{Content, contents, slot_of, chain_of, is_whole_stage, free_slot, no_files}
use Rattle.njh_spool.specs.code.Slots.{spools_from, IsOwn, IsFile, IsKept}
use Rattle.njh_spool.proofs.KeptLaws.{own_of}
use Rattle.njh_spool.proofs.HeadersEndLaws.{no_headers}
use Rattle.njh_spool.proofs.FileLaws.{file_of, first_are}

abbrev pub opened : Quota → CustomerFiles
opened q = record { quota = q.blocks; limit = q.files; used = 0; arrived = 0; whole = []; partial = [] }

abbrev pub spool_for : Quota → CustomerSpool
spool_for q = empty_spool q.blocks q.files

pub spools_from-opened : (c : ℕ) (quotas : List Quota) (files : ℕ → ℕ → Content)
    → spools_from c (map opened quotas) files ≡ map
    spool_for quotas
spools_from-opened c [] files = refl
spools_from-opened c (q ∷ quotas) files = ap (λ (spools : List CustomerSpool). spool_for q ∷ spools)
    (spools_from-opened (c + 1) quotas files)

sound_empty : (q : Quota) → IsWithinLimits q → IsSound (spool_for q)
sound_empty q limits =
    record {
      within_quota = omega arith;
      within_limit = omega arith;
      apart = λ n. omega arith;
      numbered = λ n high. refl;
      quota_limit = limits.most_blocks;
      files_limit = limits.most_files;
    }

-- a list of copies has the copy everywhere
get_or-copies : {X : Type 0} (n i : ℕ) (x : X) → get_or (replicate n x) i x ≡ x
get_or-copies zero i x = refl
get_or-copies (suc n) zero x = refl
get_or-copies (suc n) (suc i) x = get_or-copies n i x

at-copies : {X : Type 0} (many c n : ℕ) (x : X) → cond (ltb n 1024) (get_or (replicate many x) (1024 * c + n) x) x ≡ x
at-copies many c n x =
    elim (cases_lt n 1024) [
      | inl below ↦ rw (lt-ltb n 1024 below) (get_or-copies many (1024 * c + n) x)
      | inr above ↦ rw (le-ltb n 1024 above) refl
    ]

slot_is : (many c n : ℕ) → slot_of (replicate many free_slot) c n ≡ free_slot
slot_is many c n = at-copies many c n free_slot

chain_is : (many c n : ℕ) → chain_of (replicate many empty_chain) c n ≡ empty_chain
chain_is many c n = at-copies many c n empty_chain

sum_by-copies : (many : ℕ) → sum_by (λ (x : Chain). blocks_of x.bytes) (replicate many empty_chain) ≡ 0
sum_by-copies zero = refl
sum_by-copies (suc many) = omega (
  arith,
  sum_by-cons (λ (x : Chain). blocks_of x.bytes) empty_chain
      (replicate many empty_chain),
  sum_by-copies many,
)

sum_by-opened : (quotas : List Quota) → (sum_by (λ (o : CustomerFiles). o.used) (map opened quotas) ≡ 0) ×
    (sum_by (λ (o : CustomerFiles). o.quota) (map opened quotas) ≡ sum_by (λ (q : Quota). q.blocks) quotas)
sum_by-opened [] = (refl, refl)
sum_by-opened (q ∷ quotas) =
    let rest = sum_by-opened quotas in (
      omega (arith, rest.0, sum_by-cons (λ (o : CustomerFiles). o.used) (opened q) (map opened quotas)),
      omega (
        arith,
        rest.1,
        sum_by-cons (λ (o : CustomerFiles). o.quota) (opened q) (map opened quotas),
        sum_by-cons
            (λ (r : Quota). r.blocks) q quotas,
      ),
    )

empty_file : IsFile free_slot empty_chain
empty_file = file_of [] free_slot empty_chain (λ k d within. absurd (omega arith)) tt refl refl (λ _. refl)
    (omega arith) (no_headers 0 refl) (first_are [] [] free_slot.places refl)

own_opened : (q : Quota) (files : ℕ → Content) → ((n : ℕ) → (files n).stage ≡ Free) → IsWithinLimits q
    → IsOwn (opened q) files
own_opened q files free limits =
    record {
      counted = omega arith;
      sound = sound_empty q limits;
      whole_once = λ n. rw (free n) refl;
      partial_once = λ n. rw (free n) refl;
    }

pub kept_opened : (store : StoreValue) (slots : List FileSlot) (quotas : List Quota) (many : ℕ) → length quotas ≤ 64 →
    All IsWithinLimits quotas → many ≡ 1024 * length quotas → slots ≡ replicate many free_slot →
    store ≡ record { capacity = sum_by (λ (q : Quota). q.blocks) quotas; chains = replicate many empty_chain } →
    IsKept store slots (map opened quotas)
kept_opened store slots quotas many few limits all slots_are store_is =
    let count = length-map quotas opened in
    let chains = ap (λ (s : StoreValue). s.chains) store_is in
    let capacity = ap (λ (s : StoreValue). s.capacity) store_is in
    let sums = sum_by-opened quotas in
    let stage : (c n : ℕ) → (contents slots store.chains c n).stage ≡ Free =
    λ c n. ap (λ (ss : List FileSlot). (slot_of ss c n).stage) slots_are
    ∙ ap (λ (s : FileSlot). s.stage) (slot_is many c n) in
    record {
      few = omega (arith, count);
      all_slots = omega (arith, count, ap length slots_are, length-replicate many free_slot);
      all_chains = omega (arith, count, ap length chains, length-replicate many empty_chain);
      blocks = omega (arith, ap (sum_by (λ (x : Chain). blocks_of x.bytes)) chains, sum_by-copies many, sums.0);
      quotas = omega (arith, capacity, sums.1);
      own = λ c within.
          let inside : c < length quotas = omega (arith, count) in
          let q = get_or quotas c (record { blocks = 0; files = 0 }) in
          let is : own_of (map opened quotas) c ≡ opened q =
          get_or-map opened quotas c (record { blocks = 0; files = 0 })
          no_files inside in
          subst (λ (o : CustomerFiles). IsOwn o (contents slots store.chains c)) (sym is)
          (own_opened q (contents slots store.chains c) (stage c) (limits c (record { blocks = 0; files = 0 }) inside));
      files = λ c n.
          subst (λ (x : Chain). IsFile (slot_of slots c n) x)
          (sym (ap (λ (xs : List Chain). chain_of xs c n) chains ∙ chain_is many c n))
          (subst (λ (s : FileSlot). IsFile s empty_chain) (sym (ap (λ (ss : List FileSlot). slot_of ss c n) slots_are
          ∙ slot_is many c n)) empty_file);
      headers = λ c n whole. absurd (let clash : false ≡ true = sym (ap is_whole_stage (stage c n)) ∙ whole in cc);
    }
