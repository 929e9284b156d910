-- A file that became whole is added: a number comes in hand, its records are finished under it, and its row is added.
use Rattle.njh_keeper.proofs.Words
use Words.{◌≡◌, ◌≢◌, ℕ, ◌+◌, ◌^◌, ◌<◌, ◌≤◌, List, [], ◌∷◌, ◌++◌, length, get_or, remove, refl, sym, subst, ◌∙◌}
use Words.{arith, AllByRecursion, State, HasHeaders, File, SpoolContents, records_of, with_file, without_records}
use Words.{Changes, WholeFile, FileSummaryView, file_summary, Writes, AddsRow, AreFronts, GoesTo, HasFiles, IsRowFor}
use Words.{LeadsFiles, Memory, Stage, claim_of, Leads, FitsHub, AreApart, KeptPartial, KeptWhole, Numbers, Remembers}
use Words.{claim, with_key, IsTaken, is_name_of, IsFrontWhere, AreBelow, leads_by, leads_nothing, leads_then}
use Words.{leads_weaker, ap, HasRecords, IsStored, said_destination, is_sent, with_mark, field_text, front_then}
use Rattle.njh_keeper.proofs.{FollowingLaws.{goes, remain_removed, remain_same}, FrameLaws.drops_records}
use Rattle.njh_keeper.proofs.{ListLaws.all_both, MirrorLaws.{all_of, coming_moves, file_comes, moves_memory}}
use Rattle.njh_keeper.proofs.{MirrorLaws.{moves_then, still_apart}, NumberedLaws.{all-push, all_weaker, all_at}}
use Rattle.njh_keeper.proofs.{PartlyLaws.{take_follows, taken_is_empty}, UsesLaws.uses_as_key_is_taken}
use Rattle.njh_keeper.proofs.UsesLaws.{uses_as_partial_goes, in_hand_alone, uses_as_one_comes, in_hand_is_used}
use Rattle.njh_customer.specs.Surviving.{as_before}
use Rattle.njh_keeper.proofs.SentLaws.{added_stored, begins_so, front_fits, goes_on_so, is_sent_back}
use Rattle.njh_keeper.specs.code.Following.{IsInHand, IsMarkedWell, LeadsInHand}

module _ (m : Memory) (g : WholeFile) (s : SpoolContents) (files : List WholeFile) (has : HasFiles m s files) where
  abbrev pub memory_left : ℕ → Memory
  memory_left i = record { numbers = m.numbers; own = record m.own { partial = remove m.own.partial i }; text = m.text }

  -- the number of a file that wasn't whole
  pub partial_in_hand : (i : ℕ) (p : KeptPartial) → i < length m.own.partial → p ≡ get_or m.own.partial i p
      → g.number ≡ p.number → p.seen ≤ length g.records
      → AreFronts s m.own.partial (g ∷ []) → IsInHand p.key p.written m (memory_left i) s s files g
  partial_in_hand i p there is same seen fronts =
      let here = all_at (λ q. AllByRecursion (IsFrontWhere s q) (g ∷ [])) m.own.partial i p fronts there is in
      record {
        moves = moves_memory (claim_of m) (with_key p.key (claim_of (memory_left i))) s refl
            (λ n. omega (arith, uses_as_partial_goes m.numbers m.own i p there is n)) has.ordered (omega arith);
        text = refl;
        mirrored = has.mirrored;
        remain = remain_removed m.own.partial i;
        records = all_of (λ (q : KeptPartial). records_of q.key s ≡ records_of q.key s) (λ q. refl)
            (remove m.own.partial i);
        front = here.0 same seen;
      }

  -- a number that is taken
  module _ (key : ℕ) (left : List ℕ) (behind : ℕ)
      (taken : IsTaken m.numbers.free_keys m.numbers.next_key key left behind) where
    abbrev pub numbers_left : Numbers
    numbers_left = record m.numbers { free_keys = left; next_key = behind }

    abbrev pub memory_taken : Memory
    memory_taken = record { numbers = numbers_left; own = m.own; text = m.text }

    as_was : (n : ℕ) → (with_key key (claim numbers_left m.own)).uses n ≡ (claim_of m).uses n
    as_was = uses_as_key_is_taken m.numbers m.own key left behind taken

    pub key_in_hand : IsInHand key 0 m memory_taken s (without_records key 0 (2 ^ 23) s) files g
    key_in_hand =
        let by = take_follows m.numbers m.own s files has.ordered has.mirrored numbers_left key as_was refl has.apart in
        let apart : AreApart (with_key key (claim_of memory_taken)) = λ n. omega (arith, as_was n, has.apart n) in
        record {
          moves = by.0;
          text = refl;
          mirrored = by.1;
          remain = remain_same m.own.partial;
          records = all_weaker (λ (p : KeptPartial). p.key ≢ key)
              (λ p. records_of p.key (without_records key 0 (2 ^ 23) s) ≡ records_of p.key s)
              (λ p other. (drops_records key 0 (2 ^ 23) s has.ordered (omega arith)).others p.key other) m.own.partial
              (in_hand_alone numbers_left m.own key apart).1;
          front = record {
            before = g.records;
            within = omega arith;
            rerouted = as_before g.records;
            stored = taken_is_empty m.numbers m.own s files has.ordered has.mirrored numbers_left key as_was;
          };
        }

-- ---- its records are finished, and its row is added

module _ (m m1 : Memory) (s t u : SpoolContents) (files : List WholeFile) (has : HasFiles m s files) (g : WholeFile)
    (summary : FileSummaryView) (summary_is : summary ≡ file_summary g) (headers : HasHeaders g.kind g.records)
    (fits : AllByRecursion FitsHub g.records) (written : ℕ) where
  abbrev memory_added : KeptWhole → Memory
  memory_added k = record {
    numbers = record m1.numbers { next_id = m1.numbers.next_id + 1 };
    own = record m1.own { whole = m1.own.whole ++ k ∷ [] };
    text = m1.text;
  }

  row_added : (k : KeptWhole) (row : File) → IsInHand k.key written m m1 s t files g → k.id ≡ m1.numbers.next_id
      → Remembers k g → IsMarkedWell k.is_sent written g → IsRowFor m1.text k.key k.is_sent summary row
      → Writes k.key written g.records t u → GoesTo m (memory_added k) s (with_file k.id row u) (files ++ g ∷ [])
  row_added k row hand id remembers well is_row finishes =
      let apart : AreApart (with_key k.key (claim_of m1)) =
      still_apart (claim_of m) (with_key k.key (claim_of m1)) s t hand.moves has.apart in
      let front = hand.front in
      let file = front_then written front.before g.records in
      let done = finishes file
      (goes_on_so g.kind front.before g.records front.rerouted written front.within) hand.moves.ordered
      (subst (λ rs. HasRecords k.key rs t)
      (sym (begins_so g.kind front.before g.records front.rerouted written front.within)) front.stored) in
      let node : row.to_node ≡ with_mark k.is_sent (field_text (said_destination g.kind g.records).node) =
      is_row.node ∙ ap (λ (x : FileSummaryView). with_mark k.is_sent (field_text x.destination.node)) summary_is in
      let sent : is_sent row.to_node ≡ k.is_sent =
      ap is_sent node ∙ is_sent_back k.is_sent (said_destination g.kind g.records).node in
      let stored : IsStored u k.key g.kind row.to_node g.records =
      subst (λ text. IsStored u k.key g.kind text g.records) (sym node)
      (added_stored g headers.destination headers.goes front.before front.rerouted written k.key k.is_sent well u
      done.1 (front_fits g.kind front.before g.records front.rerouted written fits)) in
      let owned = is_row.owned m1.own.name ((λ i. is_name_of (hand.text i) (hand.moves.name i)) ∙ has.named) in
      let low : AreBelow k.id t = subst (λ end. AreBelow end t) (sym id) (hand.moves.below has.below) in
      let alone = in_hand_alone m1.numbers m1.own k.key apart in
      let v = with_file k.id row u in
      goes m (memory_added k) s v files (files ++ g ∷ []) has
      (moves_then (claim_of m) (with_key k.key (claim_of m1)) (claim_of (memory_added k)) s t v hand.moves
      (coming_moves t u m1.own files hand.mirrored k done.0 row owned low (with_key k.key (claim_of m1))
      (claim_of (memory_added k)) refl refl (sym id)
      (let next : m1.numbers.next_id + 1 ≡ k.id + 1 = omega (arith, id) in next)
      (in_hand_is_used m1.numbers m1.own k.key)
      (λ n. let same = uses_as_one_comes m1.numbers m1.own k n in omega (arith, same))))
      (file_comes t u m1.own files hand.mirrored k done.0 row owned low g alone.0 (is_row.of_file g summary_is)
      sent remembers stored) hand.text (all-push (λ f. HasHeaders f.kind f.records) files g has.headers headers)
      hand.remain
      (all_both (λ (p : KeptPartial). p.key ≢ k.key) (λ p. records_of p.key t ≡ records_of p.key s)
      (λ p. records_of p.key v ≡ records_of p.key s)
      (λ p other before. done.0.others p.key other ∙ before) m1.own.partial alone.1 hand.records)

  pub added_goes : (key : ℕ) (old : State) (c : Stage)
      (row : AddsRow key written summary g (record { memory = m1; shows = old }) c)
      → IsInHand key written m m1 s t files g
      → Writes key written g.records t u → GoesTo m c.memory s (with_file row.kept.id row.row u) (files ++ g ∷ [])
  added_goes key old c row hand finishes =
      rw row.memory (row_added row.kept row.row (rw row.key_is hand) row.id row.remembers row.mark
      (rw row.key_is row.is_row)
      (rw row.key_is finishes))

-- ---- the calls one after the other

pub partial_leads : (a : Stage) (m1 : Memory) (g : WholeFile) (i : ℕ) (p : KeptPartial) → let m = a.memory in
    i < length m.own.partial → p ≡ get_or m.own.partial i p → g.number ≡ p.number → p.seen ≤ length g.records
    → m1 ≡ record { numbers = m.numbers; own = record m.own { partial = remove m.own.partial i }; text = m.text }
    → LeadsInHand p.key p.written g a (record { memory = m1; shows = a.shows })
partial_leads a m1 g i p there is same seen left = leads_nothing (λ s files has fronts.
    rw left (partial_in_hand a.memory g s files has i p there is same seen fronts))

module _ (a b : Stage) (g : WholeFile) (key written : ℕ) where
  abbrev m : Memory
  m = a.memory

  abbrev m1 : Memory
  m1 = b.memory

  pub add_leads : (c : Stage) (summary : FileSummaryView) {mid : State} → summary ≡ file_summary g
      → HasHeaders g.kind g.records → AllByRecursion FitsHub g.records
      → LeadsInHand key written g a b → Leads (Writes key written g.records) b.shows mid
      → AddsRow key written summary g (record b { shows = mid }) c
      → LeadsFiles (λ s files. AreFronts s m.own.partial (g ∷ [])) (λ files now. now ≡ files ++ g ∷ []) a c
  add_leads c summary {mid} summary_is headers fits hand finish row =
      leads_then
      (leads_then {R = λ s u. (files : List WholeFile) → HasFiles m s files → AreFronts s m.own.partial (g ∷ [])
      → (t : SpoolContents) × IsInHand key written m m1 s t files g × Writes key written g.records t u}
      hand finish (λ s t u first second files has fronts. (t, first files has fronts, second))) (leads_by row.changes)
      (λ s u v both same files has fronts.
      let found = both files has fronts in (
        files ++ g ∷ [],
        refl,
        subst (λ x. GoesTo m c.memory s x (files ++ g ∷ [])) (sym same)
            (added_goes m m1 s found.0 u files has g summary summary_is headers fits written key mid c row found.1
            found.2),
      ))

  pub key_leads : (left : List ℕ) (behind : ℕ)
      → IsTaken m.numbers.free_keys m.numbers.next_key key left behind → written ≡ 0
      → m1 ≡ record { numbers = record m.numbers { free_keys = left; next_key = behind }; own = m.own; text = m.text }
      → Changes (without_records key 0 (2 ^ 23)) a.shows b.shows → LeadsInHand key written g a b
  key_leads left behind taken none is changes =
      leads_weaker (leads_by changes) (λ s t same files has fronts.
      rw (is, none, same) (key_in_hand m g s files has key left behind taken))
