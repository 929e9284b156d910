-- What each call on a customer's file makes of the spool.
use Rattle.std.proofs.Common.{◌≡◌, ℕ, ◌+◌, ◌-◌, ◌*◌, ◌/◌, ◌<◌, ◌≤◌, true, false, not, eqb, List, [], ◌∷◌, ◌++◌, length}
use Rattle.std.proofs.Common.{set, take, filter, refl, sym, ap, subst, ◌∙◌, inl, inr, arith}
use Rattle.std.specs.Prelude.{slice_get, All, IsSomeAnd}
use Rattle.std.proofs.lemmas.Bool.{cases_lt}
use Rattle.std.proofs.lemmas.List.{set-get_or}
use Rattle.njh_record.specs.Stored.{Stored}
use Rattle.njh_record.specs.Bytes.{with_field}
use Rattle.njh_record.specs.declared.Kind.{Kind}
use Rattle.njh_spool.specs.declared.State.{State}
use Rattle.njh_spool.specs.declared.State.TheVariants.{Ready}
use Rattle.njh_spool.specs.declared.file_slot.Stage.{Stage}
use Rattle.njh_spool.specs.declared.file_slot.Stage.TheVariants.{Partial, Whole}
use Rattle.njh_spool.specs.declared.file_slot.FileSlot.{FileSlot}
use Rattle.njh_spool.specs.declared.file_slot.KeptPlaces.{KeptPlaces}
use Rattle.njh_spool.specs.declared.customer_files.CustomerFiles.{CustomerFiles}
use Rattle.njh_spool.specs.code.Chains.{Chain, StoreValue, empty_chain, with_chain, blocks_of}
use Rattle.njh_spool.specs.CustomerSpool.{CustomerSpool, cost, stored_size, next_number, with_new_partial}
use Rattle.njh_spool.specs.CustomerSpool.{with_appended, without_partial, with_finished, without_whole, with_state}
use Rattle.njh_spool.specs.CustomerSpool.{with_rewritten_bytes, at_index, rewritten_record, one_more}
use Rattle.njh_spool.specs.Spools.{spool_at}
use Rattle.njh_spool.specs.code.Packing.{packed_record, packed_bytes, unpacked_records, HasByteSrcb, IsShort}
use Rattle.njh_spool.specs.code.Slots.{Content, content, contents, slot_of, chain_of, free_slot, no_files, is_free}
use Rattle.njh_spool.specs.code.Slots.{is_partial, is_whole_stage, whole_file, spool_of, spools_of, first_places}
use Rattle.njh_spool.specs.code.Slots.{with_record, ArePlaces, IsOwn, IsFile, KeepsHeaders}
use Rattle.njh_spool.specs.Headers.{header_count, kept_headers}
use Rattle.njh_spool.specs.declared.file_headers.KeptHeaders.{KeptHeaders}
use Rattle.njh_spool.proofs.HeaderLaws.{kept_headers-behind}
use Rattle.njh_spool.proofs.HeadersEndLaws.{no_headers, headers_end-rewritten}
use Rattle.njh_spool.proofs.CostLaws.{cost-rewritten, stored_size-rewritten}
use Rattle.njh_spool.proofs.IndexLaws.{put, put_again, at_is}
use Rattle.njh_spool.proofs.Calls.{Call, MovesTo}
use Rattle.njh_spool.proofs.KeptLaws.{own_of, HasOwn, moves}
use Rattle.njh_spool.proofs.FileLaws.{records_are, file_of, first_are, appended-records, appended-file, size_is}
use Rattle.njh_spool.proofs.ReadLaws.{partial_stage as stage_of, whole_not_partial as not_partial_of}
use Rattle.njh_spool.proofs.PackingLaws.{length-packed, length-unpacked}
use Rattle.njh_spool.proofs.RewriteLaws.{packed-at_index, short-at_index, codes-at_index, length-at_index}
use Rattle.njh_spool.proofs.RewriteLaws.{place-rewritten}
use Rattle.njh_spool.proofs.OwnLaws.{whole_from}
use Rattle.njh_spool.proofs.PartialLaws as partial
use Rattle.njh_spool.proofs.WholeLaws as whole
use Rattle.njh_spool.proofs.BeginLaws as begin
use Rattle.njh_spool.proofs.CallFinds as finds
use Rattle.njh_spool.proofs.CallFinds.{not_free-partial}

module _ (here : Call) where
  open here use {customer as c, number as n, kept, spool.{store, slots, customers.{items as customers}}}

  has : HasOwn store slots customers c
  has = finds.has here

  abbrev spools : List CustomerSpool
  spools = spools_of customers (contents slots store.chains)

  abbrev own : CustomerFiles
  own = own_of customers c

  abbrev files : ℕ → Content
  files = contents slots store.chains c

  abbrev slot : FileSlot
  slot = slot_of slots c n

  abbrev chain : Chain
  chain = chain_of store.chains c n

  blocks_are : blocks_of chain.bytes ≡ cost (files n).records
  blocks_are = finds.blocks_are here

  store_same : n < 1024 → with_chain (1024 * c + n) chain store ≡ store
  store_same small =
      ap (λ (chains : List Chain). record store { chains = chains })
      (ap (set store.chains (1024 * c + n)) (at_is store.chains empty_chain c n small) ∙ set-get_or store.chains
      (1024 * c + n) empty_chain)

  customers_same : set customers c own ≡ customers
  customers_same = set-get_or customers c no_files

  -- a call that leaves the customer's file with this slot and this chain, and the customer with these lists
  goes : (call : CustomerSpool → CustomerSpool) (slot' : FileSlot) (chain' : Chain) (own' : CustomerFiles) → n < 1024 →
      own'.quota ≡ own.quota → blocks_of chain'.bytes + own.used ≡ blocks_of chain.bytes + own'.used
      → IsFile slot' chain' →
      KeepsHeaders slot' chain' → IsOwn own' (put files n (content slot' chain')) ×
      (spool_of own' (put files n (content slot' chain')) ≡ call
      (spool_of own files)) → MovesTo here (with_chain (1024 * c + n) chain' store) (set slots (1024 * c + n) slot')
      (set customers c own') call
  goes call slot' chain' own' small quota blocks file headers owns =
      moves store slots customers c n slot' chain' own' kept has small (call (spool_at c spools)) quota blocks file
      headers
      (owns.0, owns.1 ∙ ap call (sym has.part))

  -- a slot without a whole file keeps nothing
  keeps_none : (slot' : FileSlot) (chain' : Chain) → is_whole_stage slot'.stage ≡ false → KeepsHeaders slot' chain'
  keeps_none slot' chain' other = λ whole. absurd (let clash : false ≡ true = sym other ∙ whole in cc)

  empty_file : (slot' : FileSlot) (keys : List ℕ) → slot'.count ≡ 0 → slot'.headers_end ≡ 0
      → slot'.places ≡ first_places → IsFile slot' (record { keys = keys; bytes = [] })
  empty_file slot' keys none headerless first =
      file_of [] slot' (record { keys = keys; bytes = [] }) (λ k d within. absurd (omega arith)) tt none refl
      (λ _. none) (omega arith) (no_headers slot'.headers_end headerless) (first_are [] keys slot'.places first)

  pub abandons : (slot' : FileSlot) (own' : CustomerFiles) → is_partial slot.stage ≡ true → slot' ≡ free_slot →
      own' ≡ record own { used = own.used - blocks_of chain.bytes; partial = filter (λ m. not (eqb m n)) own.partial } →
      n < 1024 → MovesTo here (with_chain (1024 * c + n) empty_chain store) (set slots (1024 * c + n) slot')
      (set customers c own') (without_partial n)
  abandons slot' own' there free owns small =
      let stage = stage_of slot.stage there in
      let enough = partial.covered own files n has.own stage in
      let now = owns ∙ ap (λ (b : ℕ). record own {
        used = own.used - b;
        partial = filter (λ m. not (eqb m n))
            own.partial;
      }) blocks_are in
      let left : own'.used ≡ own.used - cost (files n).records = ap (λ (o : CustomerFiles). o.used) now in
      goes (without_partial n) slot' empty_chain own' small (ap (λ (o : CustomerFiles). o.quota) owns)
      (omega (arith, left, enough, blocks_are)) (empty_file slot' [] (ap (λ (x : FileSlot). x.count) free)
      (ap (λ (x : FileSlot). x.headers_end) free) (ap (λ (x : FileSlot). x.places) free)) (keeps_none slot' empty_chain
      (ap (λ (x : FileSlot). is_whole_stage x.stage) free))
      (partial.abandons own files n has.own stage (content slot' empty_chain) own' (ap (λ (x : FileSlot). x.stage) free)
      now)

  pub removes : (slot' : FileSlot) (own' : CustomerFiles) → is_whole_stage slot.stage ≡ true → slot' ≡ free_slot →
      own' ≡ record own { used = own.used - blocks_of chain.bytes; whole = filter (λ m. not (eqb m n)) own.whole }
      → n < 1024 →
      MovesTo here (with_chain (1024 * c + n) empty_chain store) (set slots (1024 * c + n) slot') (set customers c own')
      (without_whole n)
  removes slot' own' there free owns small =
      let other = not_partial_of slot.stage there in
      let enough = whole.covered own files n has.own there other in
      let now = owns ∙ ap (λ (b : ℕ). record own { used = own.used - b; whole = filter (λ m. not (eqb m n)) own.whole })
      blocks_are in
      let left : own'.used ≡ own.used - cost (files n).records = ap (λ (o : CustomerFiles). o.used) now in
      goes (without_whole n) slot' empty_chain own' small (ap (λ (o : CustomerFiles). o.quota) owns)
      (omega (arith, left, enough, blocks_are)) (empty_file slot' [] (ap (λ (x : FileSlot). x.count) free)
      (ap (λ (x : FileSlot). x.headers_end) free) (ap (λ (x : FileSlot). x.places) free)) (keeps_none slot' empty_chain
      (ap (λ (x : FileSlot). is_whole_stage x.stage) free))
      (whole.removes own files n has.own there other (content slot' empty_chain) own'
      (ap (λ (x : FileSlot). x.stage) free) now)

  -- the file has another stage, and is not free
  restaged : (stage : Stage) (headers : KeptHeaders) → is_free stage ≡ false → IsFile
      (record slot { stage = stage; headers = headers }) chain
  restaged stage headers used' =
      let file = kept.files c n in
      record {
        bytes = file.bytes;
        short = file.short;
        codes = file.codes;
        free = λ free. absurd (let clash : false ≡ true = sym used'
            ∙ free in cc);
        small = file.small;
        headers_end = file.headers_end;
        places = file.places;
      }

  pub finishes : (own' : CustomerFiles) (headers : KeptHeaders) → headers ≡ kept_headers slot.kind (files n).records →
      is_partial slot.stage ≡ true → own' ≡ record own {
        whole = own.whole ++ n ∷ [];
        partial = filter
            (λ m. not (eqb m n)) own.partial;
        arrived = one_more own.arrived;
      } →
      n < 1024 → MovesTo here store (set slots (1024 * c + n) (record slot { stage = Whole Ready; headers = headers }))
      (set customers c own') (with_finished n)
  finishes own' headers said there owns small =
      let stage = stage_of slot.stage there in
      let slot' : FileSlot = record slot { stage = Whole Ready; headers = headers } in
      let blocks = ap (λ (o : CustomerFiles). o.used) owns in
      subst (λ (t : StoreValue). MovesTo here t (set slots (1024 * c + n) slot') (set customers c own')
      (with_finished n)) (store_same small)
      (goes (with_finished n) slot' chain own' small (ap (λ (o : CustomerFiles). o.quota) owns) (omega arith)
      (restaged (Whole Ready) headers refl) (λ _. said)
      (partial.finishes own files n has.own stage (content slot' chain) own' refl owns))

  pub restates : (state : State) → is_whole_stage slot.stage ≡ true → n < 1024 → MovesTo here store
      (set slots (1024 * c + n) (record slot { stage = Whole state })) customers (with_state n state)
  restates state there small =
      let slot' : FileSlot = record slot { stage = Whole state } in
      let other = not_partial_of slot.stage there in
      subst (λ (os : List CustomerFiles). MovesTo here store (set slots (1024 * c + n) slot') os (with_state n state))
      customers_same
      (subst (λ (t : StoreValue). MovesTo here t (set slots (1024 * c + n) slot') (set customers c own)
      (with_state n state)) (store_same small)
      (goes (with_state n state) slot' chain own small refl refl (restaged (Whole state) slot.headers refl)
      (λ _. kept.headers c n there)
      (whole.changes own files n has.own there other (λ x. record x { state = state }) (content slot' chain) refl refl
      refl refl)))

  -- it is read on from elsewhere
  pub reads_on : (kept' : KeptPlaces) → is_free slot.stage ≡ false → ArePlaces (files n).records chain.keys kept'
      → n < 1024 →
      MovesTo here store (set slots (1024 * c + n) (record slot { places = kept' })) customers (λ s. s)
  reads_on kept' used' places small =
      let slot' : FileSlot = record slot { places = kept' } in
      let file = kept.files c n in
      subst (λ (os : List CustomerFiles). MovesTo here store (set slots (1024 * c + n) slot') os (λ s. s))
      customers_same
      (subst (λ (t : StoreValue). MovesTo here t (set slots (1024 * c + n) slot') (set customers c own) (λ s. s))
      (store_same small)
      (goes (λ (s : CustomerSpool). s) slot' chain own small refl refl
      (record {
        bytes = file.bytes;
        short = file.short;
        codes = file.codes;
        free = file.free;
        small = file.small;
        headers_end = file.headers_end;
        places = places;
      })
      (kept.headers c n) (
        subst (λ (fs : ℕ → Content). IsOwn own fs) (sym (put_again files n)) has.own,
        ap (spool_of own) (put_again files n),
      )))

  pub begins : (kind : Kind) (slot' : FileSlot) (own' : CustomerFiles)
      → length own.whole + length own.partial < own.limit →
      n ≡ next_number (spool_of own files) → is_free slot.stage ≡ true → slot' ≡ record free_slot {
        stage = Partial;
        kind =
            kind;
      } → own' ≡ record own { partial = own.partial ++ n ∷ [] } → n < 1024 → MovesTo here store
      (set slots (1024 * c + n) slot') (set customers c own') (with_new_partial kind)
  begins kind slot' own' room next free is owns small =
      let file = kept.files c n in
      let empty : chain.bytes ≡ [] = file.bytes ∙ ap (λ (count : ℕ). packed_bytes (unpacked_records count chain.bytes))
      (file.free free) in
      let none : slot'.count ≡ 0 = ap (λ (x : FileSlot). x.count) is in
      let blocks = ap (λ (o : CustomerFiles). o.used) owns in
      let made : IsFile slot' chain = file_of [] slot' chain (λ k d within. absurd (omega arith)) tt none empty
      (λ _. none) file.small (no_headers slot'.headers_end (ap (λ (x : FileSlot). x.headers_end) is))
      (first_are [] chain.keys slot'.places (ap (λ (x : FileSlot). x.places) is)) in
      let same : content slot' chain ≡ record { stage = Partial; kind = kind; records = [] } = ap
      (λ (x : FileSlot). content x chain) is in
      subst (λ (t : StoreValue). MovesTo here t (set slots (1024 * c + n) slot') (set customers c own')
      (with_new_partial kind)) (store_same small)
      (goes (with_new_partial kind) slot' chain own' small (ap (λ (o : CustomerFiles). o.quota) owns) (omega arith) made
      (keeps_none slot' chain (ap (λ (x : FileSlot). is_whole_stage x.stage) is))
      (begin.begins own files has.own n kind (content slot' chain) own' room next free same owns))

  -- one record more
  pub appends : (r : Stored) (keys : List ℕ) (blocks : ℕ) → is_partial slot.stage ≡ true → IsShort r → HasByteSrcb r
      → take (length chain.keys)
      keys ≡ chain.keys → blocks ≡ own.used - blocks_of chain.bytes + blocks_of (chain.bytes ++ packed_record r) →
      blocks ≤ own.quota → n < 1024 → MovesTo here (with_chain (1024 * c + n)
      (record { keys = keys; bytes = chain.bytes ++ packed_record r }) store)
      (set slots (1024 * c + n) (with_record r.srcb slot))
      (set customers c (record own { used = blocks })) (with_appended n r)
  appends r keys blocks there short code front counts fits small =
      let stage = stage_of slot.stage there in
      let file = kept.files c n in
      let enough = partial.covered own files n has.own stage in
      let slot' : FileSlot = with_record r.srcb slot in
      let chain' : Chain = record { keys = keys; bytes = chain.bytes ++ packed_record r } in
      let limit : own.quota ≤ 65535 = has.own.sound.quota_limit in
      let made = appended-file slot chain keys r file short code front (not_free-partial slot.stage there)
      (omega (arith, enough, blocks_are)) in
      let records = appended-records slot chain keys r file short code front in
      let longer : blocks_of (chain.bytes ++ packed_record r) ≡ cost ((files n).records ++ r ∷ []) =
      ap (λ (size : ℕ). (size + 251) / 252) (size_is slot' chain' made ∙ ap stored_size records) in
      goes (with_appended n r) slot' chain' (record own { used = blocks }) small refl
      (omega (arith, enough, blocks_are)) made
      (keeps_none slot' chain' (ap is_whole_stage stage))
      (partial.appends own files n has.own stage r (content slot' chain') (record own { used = blocks }) blocks
      (ap (λ (rs : List Stored). record { stage = slot.stage; kind = slot.kind; records = rs }) records) refl
      (omega (arith, blocks_are, longer)) fits)

  -- the same, where the code's store, its slots and its customer are these
  pub arrives : (t store' : StoreValue) (slot' : FileSlot) (own' : CustomerFiles) (slots' : List FileSlot) (j : ℕ)
      (call : CustomerSpool → CustomerSpool) →
      store' ≡ t → slots' ≡ set slots (1024 * c + n) slot' → j ≡ c → MovesTo here t (set slots (1024 * c + n) slot')
      (set customers c own') call → MovesTo here store' slots' (set customers j own') call
  arrives t store' slot' own' slots' j call same_store same_slots same_customer moved =
      subst (λ (x : StoreValue). MovesTo here x slots' (set customers j own') call) (sym same_store)
      (subst (λ (xs : List FileSlot). MovesTo here t xs (set customers j own') call) (sym same_slots)
      (subst (λ (k : ℕ). MovesTo here t (set slots (1024 * c + n) slot') (set customers k own') call)
      (sym same_customer) moved))

  -- a record is rewritten: the file's slot keeps what the headers say now
  module _ (k at place : ℕ) (new : List ℕ) (there : is_whole_stage slot.stage ≡ true) (small : n < 1024)
      (is : at ≡ stored_size (take k (files n).records) + 3 + place) (within : k < slot.count)
      (fits : IsSomeAnd (slice_get (files n).records k) (λ r. place + length new ≤ length r.bytes)) where
    abbrev records : List Stored
    records = (files n).records

    abbrev changed : List Stored
    changed = at_index k (rewritten_record place new) records

    abbrev chain' : Chain
    chain' = record { keys = chain.keys; bytes = with_field at new chain.bytes }

    bytes : with_field at new chain.bytes ≡ packed_bytes changed
    bytes =
        ap (λ (i : ℕ). with_field i new chain.bytes) is ∙ ap (with_field (stored_size (take k records) + 3 + place) new)
        (kept.files c n).bytes
        ∙ packed-at_index k place new records (omega (arith, length-unpacked slot.count chain.bytes)) fits

    counted : slot.count ≡ length changed
    counted = omega (
      arith,
      length-unpacked slot.count chain.bytes,
      length-at_index k
          (rewritten_record place new) records,
    )

    short : All IsShort changed
    short = short-at_index k place new records fits (kept.files c n).short

    size : length (with_field at new chain.bytes) ≡ length chain.bytes
    size = ap length bytes ∙ length-packed changed ∙ stored_size-rewritten k place new records fits
        ∙ sym (size_is slot chain
        (kept.files c n))

    now : unpacked_records slot.count (with_field at new chain.bytes) ≡ changed
    now = records_are changed slot.count (with_field at new chain.bytes) short counted bytes

    made : (headers : KeptHeaders) → IsFile (record slot { headers = headers }) chain'
    made headers =
        file_of changed (record slot { headers = headers }) chain' short
        (codes-at_index k place new records (kept.files c n).codes) counted bytes (kept.files c n).free
        (omega (arith, size, (kept.files c n).small))
        (headers_end-rewritten k place new records slot.headers_end (kept.files c n).headers_end) (record {
          last = place-rewritten k place new records chain.keys slot.places.last fits (kept.files c n).places.last;
          next = place-rewritten k place new records chain.keys slot.places.next fits (kept.files c n).places.next;
        })

    pub still_file : IsFile slot chain'
    still_file = made slot.headers

    keeps : (headers : KeptHeaders) → (k < slot.headers.count → headers ≡ kept_headers slot.kind
        (unpacked_records slot.count chain'.bytes)) →
        (slot.headers.count ≤ k → headers ≡ slot.headers) → KeepsHeaders (record slot { headers = headers }) chain'
    keeps headers again same _ =
        elim (cases_lt k slot.headers.count) [
          | inl before ↦ again before
          | inr behind ↦
              let was = kept.headers c n there in
              let far : header_count slot.kind records ≤ k =
              omega (arith, behind, ap (λ (h : KeptHeaders). h.count) was) in
              same behind ∙ was ∙ sym (kept_headers-behind slot.kind k (rewritten_record place new) records far)
              ∙ ap (kept_headers slot.kind) (sym now)
        ]

    pub rewrites : (headers : KeptHeaders) → (k < slot.headers.count → headers ≡ kept_headers slot.kind
        (unpacked_records slot.count chain'.bytes)) → (slot.headers.count ≤ k → headers ≡ slot.headers) →
        MovesTo here (with_chain (1024 * c + n) chain' store)
        (set slots (1024 * c + n) (record slot { headers = headers })) customers (with_rewritten_bytes n k place new)
    rewrites headers again same =
        let slot' : FileSlot = record slot { headers = headers } in
        let same_content : content slot' chain' ≡ record { stage = slot.stage; kind = slot.kind; records = changed } =
        ap (λ (rs : List Stored). record { stage = slot.stage; kind = slot.kind; records = rs }) now in
        let other = not_partial_of slot.stage there in
        let blocks : blocks_of (with_field at new chain.bytes) ≡ blocks_of chain.bytes =
        ap (λ (k' : ℕ). (k' + 251) / 252) size in
        let costs : cost (content slot' chain').records ≡ cost records =
        ap (λ (x : Content). cost x.records) same_content
        ∙ cost-rewritten k place new records fits in
        let file_same : whole_from n (content slot' chain') ≡ record (whole_file files n) { records = changed } =
        ap (whole_from n) same_content in
        subst (λ (os : List CustomerFiles). MovesTo here (with_chain (1024 * c + n) chain' store)
        (set slots (1024 * c + n) slot') os (with_rewritten_bytes n k place new)) customers_same
        (goes (with_rewritten_bytes n k place new) slot' chain' own small refl (omega (arith, blocks)) (made headers)
        (keeps headers again same)
        (whole.changes own files n has.own there other
        (λ x. record x { records = at_index k (rewritten_record place new) x.records }) (content slot' chain') there
        other
        file_same costs))
