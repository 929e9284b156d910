-- One customer's files move, and no other's.
use Rattle.std.proofs.Common.{◌≡◌, ◌≢◌, ℕ, zero, suc, ◌+◌, ◌*◌, ◌<◌, ◌≤◌, List, [], ◌∷◌, length, get_or, set, sum_by}
use Rattle.std.proofs.Common.{refl, sym, ap, subst, ◌∙◌, inl, inr, arith, length-set, zero-add}
use Rattle.std.specs.Prelude.{All}
use Rattle.std.proofs.lemmas.Bool.{cases_eq}
use Rattle.std.proofs.lemmas.List.{get_or-set_same, get_or-set_other, get_or_default, set-get_or}
use Rattle.std.proofs.lemmas.List.Sums.{sum_by-set, sum_by-cons}
use Rattle.njh_spool.specs.declared.file_slot.FileSlot.{FileSlot}
use Rattle.njh_spool.specs.declared.customer_files.CustomerFiles.{CustomerFiles}
use Rattle.njh_spool.specs.code.Chains.{Chain, StoreValue, empty_chain, with_chain, blocks_of, blocks_used}
use Rattle.njh_spool.specs.CustomerSpool.{CustomerSpool, used_blocks}
use Rattle.njh_spool.specs.Spools.{no_spool, spool_at}
use Rattle.njh_spool.specs.code.Slots.{Content, content, contents, slot_of, chain_of, no_files, spool_of, spools_from}
use Rattle.njh_spool.specs.code.Slots.{spools_of, IsOwn, IsFile, KeepsHeaders, IsKept}
use Rattle.njh_spool.proofs.IndexLaws.{put, at_is, slot-same, chain-same, slot-other, chain-other, contents-same}
use Rattle.njh_spool.proofs.IndexLaws.{contents-other}

abbrev pub own_of : List CustomerFiles → ℕ → CustomerFiles
own_of customers c = get_or customers c no_files

-- the customers from k on, where the one that changes has gone by
spools_from-past : (c k : ℕ) (customers : List CustomerFiles) (files files' : ℕ → ℕ → Content) → c < k →
    ((e : ℕ) → e ≢ c → files' e ≡ files e) → spools_from k customers files' ≡ spools_from k customers files
spools_from-past c k [] files files' past same = refl
spools_from-past c k (own ∷ more) files files' past same =
    let here = ap (spool_of own) (same k (λ e. omega arith)) in
    let rest = spools_from-past c (k + 1) more files files' (omega arith) same in
    ap (λ (s : CustomerSpool). s ∷ spools_from (k + 1) more files') here
    ∙ ap (λ (ss : List CustomerSpool). spool_of own (files k) ∷ ss) rest

spools_from-moved : (i k : ℕ) (customers : List CustomerFiles) (files files' : ℕ → ℕ → Content) (own : CustomerFiles) →
    i < length customers → ((e : ℕ) → e ≢ k + i → files' e ≡ files e) → spools_from k (set customers i own) files' ≡ set
    (spools_from k customers files) i (spool_of own (files' (k + i)))
spools_from-moved i k [] files files' own within same = absurd (omega arith)
spools_from-moved zero k (other ∷ more) files files' own within same =
    let here : k + zero ≡ k = omega arith in
    let rest = spools_from-past (k + zero) (k + 1) more files files' (omega arith) same in
    ap (λ (ss : List CustomerSpool). spool_of own (files' k) ∷ ss) rest
    ∙ ap (λ (j : ℕ). spool_of own (files' j) ∷ spools_from (k + 1) more files) (sym here)
spools_from-moved (suc i) k (other ∷ more) files files' own within same =
    let next : k + 1 + i ≡ k + suc i = omega arith in
    let first = ap (spool_of other) (same k (λ e. omega arith)) in
    let rest =
    spools_from-moved i (k + 1) more files files' own (omega arith) (λ e apart. same e (λ is. apart (is ∙ sym next))) in
    let there = ap (λ (j : ℕ). spool_of own (files' j)) next in
    ap (λ (s : CustomerSpool). s ∷ spools_from (k + 1) (set more i own) files') first
    ∙ ap (λ (ss : List CustomerSpool). spool_of other (files k) ∷ ss)
    (rest ∙ ap (λ (s : CustomerSpool). set (spools_from (k + 1) more files) i s) there)

pub length-spools_from : (k : ℕ) (customers : List CustomerFiles) (files : ℕ → ℕ → Content) →
    length (spools_from k customers files) ≡ length customers
length-spools_from k [] files = refl
length-spools_from k (own ∷ more) files = ap suc (length-spools_from (k + 1) more files)

spools_from-at : (i k : ℕ) (customers : List CustomerFiles) (files : ℕ → ℕ → Content) → i < length customers →
    get_or (spools_from k customers files) i no_spool ≡ spool_of (own_of customers i) (files (k + i))
spools_from-at i k [] files within = absurd (omega arith)
spools_from-at zero k (own ∷ more) files within = let here : k + zero ≡ k = omega arith in
    ap (λ (j : ℕ). spool_of own (files j)) (sym here)
spools_from-at (suc i) k (own ∷ more) files within =
    let next : k + 1 + i ≡ k + suc i = omega arith in
    spools_from-at i (k + 1) more files (omega arith) ∙ ap (λ (j : ℕ). spool_of (own_of more i) (files j)) next

pub part_is : (c : ℕ) (customers : List CustomerFiles) (files : ℕ → ℕ → Content) → c < length customers →
    spool_at c (spools_of customers files) ≡ spool_of (own_of customers c) (files c)
part_is c customers files within = spools_from-at c 0 customers files within
    ∙ ap (λ (j : ℕ). spool_of (own_of customers c) (files j)) (zero-add c)

-- what a customer of a spool that is kept has
pub record HasOwn (store : StoreValue) (slots : List FileSlot) (customers : List CustomerFiles) (c : ℕ) : Type 0 where
  pub within : c < length customers
  pub slot_within : (n : ℕ) → n < 1024 → 1024 * c + n < length slots
  pub chain_within : (n : ℕ) → n < 1024 → 1024 * c + n < length store.chains
  pub own : IsOwn (own_of customers c) (contents slots store.chains c)
  pub part : spool_at c (spools_of customers (contents slots store.chains)) ≡ spool_of (own_of customers c)
      (contents slots store.chains c)

row_within : (c n all : ℕ) → c < all → n < 1024 → 1024 * c + n < 1024 * all
row_within c n all within small = omega arith

pub has_own : (store : StoreValue) (slots : List FileSlot) (customers : List CustomerFiles) (c : ℕ) →
    IsKept store slots customers → c < length (spools_of customers (contents slots store.chains))
    → HasOwn store slots customers c
has_own store slots customers c kept inside =
    let within : c < length customers = omega (arith, length-spools_from 0 customers (contents slots store.chains)) in
    record {
      within = within;
      slot_within = λ n small. omega (arith, kept.all_slots, row_within c n (length customers) within small);
      chain_within = λ n small. omega (arith, kept.all_chains, row_within c n (length customers) within small);
      own = kept.own c within;
      part = part_is c customers (contents slots store.chains) within;
    }

-- a call that gives one customer another spool
pub record Moves (store : StoreValue) (slots : List FileSlot) (customers : List CustomerFiles) (store' : StoreValue)
    (slots' : List FileSlot) (customers' : List CustomerFiles) (c : ℕ) (s : CustomerSpool) : Type 0 where
  pub kept : IsKept store' slots' customers'
  pub spools : spools_of customers' (contents slots' store'.chains) ≡ set
      (spools_of customers (contents slots store.chains)) c s

module _ (store : StoreValue) (slots : List FileSlot) (customers : List CustomerFiles) (c n : ℕ) (slot : FileSlot)
    (chain : Chain) (own : CustomerFiles) (kept : IsKept store slots customers) (has : HasOwn store slots customers c)
    (small : n < 1024) where
  abbrev place : ℕ
  place = 1024 * c + n

  abbrev store' : StoreValue
  store' = with_chain place chain store

  abbrev slots' : List FileSlot
  slots' = set slots place slot

  abbrev customers' : List CustomerFiles
  customers' = set customers c own

  own_same : own_of customers' c ≡ own
  own_same = get_or-set_same customers c own no_files has.within

  files_now : contents slots' store'.chains c ≡ put (contents slots store.chains c) n (content slot chain)
  files_now = contents-same slots store.chains c n slot chain small (has.slot_within n small) (has.chain_within n small)

  files_other : (e : ℕ) → e ≢ c → contents slots' store'.chains e ≡ contents slots store.chains e
  files_other e apart =
      contents-other slots store.chains c n slot chain small (has.slot_within n small) (has.chain_within n small) e
      apart

  -- what holds of every slot and its chain
  of_all : (Holds : FileSlot → Chain → Type 0) → Holds slot chain
      → ((e m : ℕ) → Holds (slot_of slots e m) (chain_of store.chains e m)) →
      (e m : ℕ) → Holds (slot_of slots' e m) (chain_of store'.chains e m)
  of_all Holds here rest e m =
      let slot_within = has.slot_within n small in
      let chain_within = has.chain_within n small in
      elim (cases_eq e c) [
        | inl same_c ↦
            elim (cases_eq m n) [
              | inl same_n ↦
                  let now : Holds (slot_of slots' c n) (chain_of store'.chains c n) =
                  subst (λ (x : Chain). Holds (slot_of slots' c n) x)
                  (sym (chain-same slots store.chains c n slot chain small slot_within chain_within))
                  (subst (λ (x : FileSlot). Holds x chain)
                  (sym (slot-same slots store.chains c n slot chain small slot_within chain_within)) here) in
                  subst (λ (d : ℕ). Holds (slot_of slots' d m) (chain_of store'.chains d m)) (sym same_c)
                  (subst (λ (k : ℕ). Holds (slot_of slots' c k) (chain_of store'.chains c k)) (sym same_n) now)
              | inr other ↦
                  subst (λ (x : Chain). Holds (slot_of slots' e m) x)
                  (sym (chain-other slots store.chains c n slot chain small slot_within chain_within e m (inr other)))
                  (subst (λ (x : FileSlot). Holds x (chain_of store.chains e m))
                  (sym (slot-other slots store.chains c n slot chain small slot_within chain_within e m (inr other)))
                  (rest e m))
            ]
        | inr other ↦
            subst (λ (x : Chain). Holds (slot_of slots' e m) x)
            (sym (chain-other slots store.chains c n slot chain small slot_within chain_within e m (inl other)))
            (subst (λ (x : FileSlot). Holds x (chain_of store.chains e m))
            (sym (slot-other slots store.chains c n slot chain small slot_within chain_within e m (inl other)))
            (rest e m))
      ]

  pub moves : (s : CustomerSpool) → own.quota ≡ (own_of customers c).quota
      → blocks_of chain.bytes + (own_of customers c).used ≡
      blocks_of (chain_of store.chains c n).bytes + own.used → IsFile slot chain → KeepsHeaders slot chain →
      IsOwn own (put (contents slots store.chains c) n (content slot chain)) ×
      (spool_of own (put (contents slots store.chains c) n (content slot chain)) ≡ s)
      → Moves store slots customers store'
      slots' customers' c s
  moves s quota blocks file headers owns =
      let old_chain = at_is store.chains empty_chain c n small in
      let chain_sum =
      sum_by-set (λ (x : Chain). blocks_of x.bytes) store.chains place chain empty_chain (has.chain_within n small) in
      let used_sum = sum_by-set (λ (o : CustomerFiles). o.used) customers c own no_files has.within in
      let quota_sum = sum_by-set (λ (o : CustomerFiles). o.quota) customers c own no_files has.within in
      let old_blocks = ap (λ (x : Chain). blocks_of x.bytes) old_chain in
      record {
        kept = record {
          few = omega (arith, kept.few, length-set customers c own);
          all_slots = omega (arith, kept.all_slots, length-set slots place slot, length-set customers c own);
          all_chains = omega (arith, kept.all_chains, length-set store.chains place chain, length-set customers c own);
          blocks = omega (arith, kept.blocks, chain_sum, used_sum, old_blocks, blocks);
          quotas = omega (arith, kept.quotas, quota_sum, quota);
          own = λ e within.
              elim (cases_eq e c) [
                | inl same ↦
                    let here : IsOwn (own_of customers' c) (contents slots' store'.chains c) =
                    rw (own_same, files_now) owns.0 in
                    subst (λ (d : ℕ). IsOwn (own_of customers' d) (contents slots' store'.chains d)) (sym same) here
                | inr other ↦
                    let there : own_of customers' e ≡ own_of customers e =
                    get_or-set_other customers c e own no_files other in
                    let within_old : e < length customers = omega (arith, length-set customers c own) in
                    subst (λ (files : ℕ → Content). IsOwn (own_of customers' e) files) (sym (files_other e other))
                    (subst (λ (o : CustomerFiles). IsOwn o (contents slots store.chains e)) (sym there)
                    (kept.own e within_old))
              ];
          files = of_all IsFile file kept.files;
          headers = of_all KeepsHeaders headers kept.headers;
        };
        spools =
            spools_from-moved c 0 customers (contents slots store.chains) (contents slots' store'.chains) own has.within
            (λ e apart. files_other e (λ is. apart (is ∙ sym (zero-add c))))
            ∙ ap (λ (j : ℕ). set (spools_of customers (contents slots store.chains)) c
            (spool_of own (contents slots' store'.chains j))) (zero-add c)
            ∙ ap (λ (files : ℕ → Content). set (spools_of customers (contents slots store.chains)) c
            (spool_of own files)) files_now
            ∙ ap (λ (t : CustomerSpool). set (spools_of customers (contents slots store.chains)) c t) owns.1;
      }

-- a spool that stays as it is
pub stays : (customers : List CustomerFiles) (files : ℕ → ℕ → Content) (c : ℕ) (s : CustomerSpool) →
    spool_at c (spools_of customers files) ≡ s → spools_of customers files ≡ set (spools_of customers files) c s
stays customers files c s is = sym (set-get_or (spools_of customers files) c no_spool)
    ∙ ap (set (spools_of customers files) c) is

-- a customer's lists as they are read
pub own_is : (customers : List CustomerFiles) (c i : ℕ) (own : CustomerFiles) → c < length customers → i ≡ c →
    own ≡ get_or customers i own → own ≡ own_of customers c
own_is customers c i own within same is =
    is ∙ ap (λ (j : ℕ). get_or customers j own) same ∙ get_or_default customers c own no_files within

-- what the customers use and may use, added
sum_used : (k : ℕ) (customers : List CustomerFiles) (files : ℕ → ℕ → Content) →
    ((i : ℕ) → i < length customers
    → (own_of customers i).used ≡ used_blocks (spool_of (own_of customers i) (files (k + i)))) →
    sum_by used_blocks (spools_from k customers files) ≡ sum_by (λ (o : CustomerFiles). o.used) customers
sum_used k [] files counted = refl
sum_used k (own ∷ more) files counted =
    let here : k + zero ≡ k = omega arith in
    let first = counted zero (omega arith) ∙ ap (λ (j : ℕ). used_blocks (spool_of own (files j))) here in
    let rest = sum_used (k + 1) more files (λ i within. counted (suc i) (omega arith)
    ∙ ap (λ (j : ℕ). used_blocks (spool_of (own_of more i) (files j)))
    (let e : k + suc i ≡ k + 1 + i = omega arith in e)) in
    omega (
      arith,
      sum_by-cons used_blocks (spool_of own (files k)) (spools_from (k + 1) more files),
      sum_by-cons
          (λ (o : CustomerFiles). o.used) own more,
    )

sum_quota : (k : ℕ) (customers : List CustomerFiles) (files : ℕ → ℕ → Content) → sum_by (λ (s : CustomerSpool). s.quota)
    (spools_from k customers files) ≡ sum_by (λ (o : CustomerFiles). o.quota) customers
sum_quota k [] files = refl
sum_quota k (own ∷ more) files =
    omega (
      arith,
      sum_quota (k + 1) more files,
      sum_by-cons (λ (s : CustomerSpool). s.quota) (spool_of own (files k))
          (spools_from (k + 1) more files),
      sum_by-cons (λ (o : CustomerFiles). o.quota) own more,
    )

module _ (store : StoreValue) (slots : List FileSlot) (customers : List CustomerFiles)
    (kept : IsKept store slots customers) where
  abbrev all : List CustomerSpool
  all = spools_of customers (contents slots store.chains)

  pub within_all : All (λ (s : CustomerSpool). used_blocks s ≤ s.quota) all
  within_all = λ k d within.
      let few : k < length customers = omega (arith, length-spools_from 0 customers (contents slots store.chains)) in
      let is = get_or_default all k d no_spool within ∙ part_is k customers (contents slots store.chains) few in
      rw is (kept.own k few).sound.within_quota

  pub quotas_fit : sum_by (λ (s : CustomerSpool). s.quota) all ≤ store.capacity
  quotas_fit = omega (arith, sum_quota 0 customers (contents slots store.chains), kept.quotas)

  pub used_all : sum_by used_blocks all ≡ blocks_used store
  used_all =
      sum_used 0 customers (contents slots store.chains) (λ i within. (kept.own i within).counted
      ∙ ap (λ (j : ℕ). used_blocks (spool_of (own_of customers i) (contents slots store.chains j))) (sym (zero-add i)))
      ∙ sym kept.blocks
