-- A file that is still there: what is written anew, and what is remembered of it then.
use Rattle.njh_keeper.proofs.Words
use Words.{◌≡◌, ℕ, ◌<◌, ◌⊎◌, inl, inr, Bool, true, false, List, length, get_or, set, Some, None, refl, sym, ap}
use Words.{subst, ◌∙◌, arith, get_or_default, AllByRecursion, User, Kind, In, Out, Stored, destination_of, HasHeaders}
use Words.{File, SpoolContents, records_of, with_changed, WholeFile, IsStill, FileSummaryView, said_destination}
use Words.{file_summary, is_held, GoesTo, HasFiles, IsRowFor, IsStillAt, Memory, claim_of, IsRerouted, is_name}
use Words.{IsStored, is_sent, with_mark, field_text, WritesUnder, own_rows, AreOne, named_nodes, IsKept}
use Words.{KeptPartial, KeptWhole, NameOneNode}
use Words.{Remembers}
use Rattle.njh_keeper.proofs.{SentLaws.{is_sent_back, rerouted_long, sent_stored, still_stored}, FollowingLaws.goes}
use Rattle.njh_keeper.proofs.{FollowingLaws.remain_same, ListLaws.{BesideAt, all-set}, MirrorLaws.all_of}
use Rattle.njh_keeper.proofs.MirrorLaws.{state_changes, changing_moves, file_changes, moves_memory}
use Rattle.njh_keeper.proofs.NodeLaws.{job_names_one, names_one_node, one_node_is_named, same_by_destination}
use Rattle.njh_keeper.proofs.{NodeLaws.same_or_one_node, NumberedLaws.{all_at}}
use Rattle.{njh_keeper.proofs.{UsesLaws.{uses_as_one_changes}, WalkLaws.kept_at}, std.proofs.Common.⊎_elim}

-- ---- which nodes are named

pub one_is_named : (kind : Kind) (rs : List Stored) (d : User) → destination_of kind rs ≡ Some d
    → AreOne (named_nodes None rs) → NameOneNode kind rs
one_is_named In rs d reads one = job_names_one rs d reads
one_is_named Out rs d reads one = names_one_node Out rs d reads one

pub job_is_named : (kind : Kind) (rs : List Stored) (d : User) → destination_of kind rs ≡ Some d → kind ≡ In
    → NameOneNode kind rs
job_is_named kind rs d reads job = subst (λ x. NameOneNode x rs) (sym job)
    (job_names_one rs d (subst (λ x. destination_of x rs ≡ Some d) job reads))

pub out_is_named : (kind : Kind) (rs : List Stored) (d : User) → destination_of kind rs ≡ Some d → kind ≡ Out
    → NameOneNode kind rs → AreOne (named_nodes None rs)
out_is_named kind rs d reads out one =
    one_node_is_named Out rs d (subst (λ x. destination_of x rs ≡ Some d) out reads)
    (subst (λ x. NameOneNode x rs) out one)

module _ (k : KeptWhole) (f g : WholeFile) (remembers : Remembers k f) (still : IsStill f g)
    (was : HasHeaders f.kind f.records) (is : HasHeaders g.kind g.records) where
  -- its headers named one node, or they name several still
  one_or_several : (k.is_mixed ≡ true → AreOne (named_nodes None g.records) → ⊥)
      → NameOneNode f.kind f.records ⊎ (NameOneNode f.kind g.records → ⊥)
  one_or_several several = by f.kind refl k.is_mixed refl
    where
      by : (kind : Kind) → f.kind ≡ kind → (b : Bool) → k.is_mixed ≡ b
          → NameOneNode f.kind f.records ⊎ (NameOneNode f.kind g.records → ⊥)
      by In job b mixed = inl (job_is_named f.kind f.records was.destination was.goes job)
      by Out out false mixed = inl (remembers.mixed mixed)
      by Out out true mixed = inr (λ one. several mixed (one_node_is_named Out g.records is.destination
          (subst (λ x. destination_of x g.records ≡ Some is.destination) (still.kind ∙ out) is.goes)
          (subst (λ x. NameOneNode x g.records) out one)))

  -- where nothing is to be written anew, its records are those that they were
  pub same_records : k.destination ≡ said_destination g.kind g.records
      → (k.is_mixed ≡ true → AreOne (named_nodes None g.records) → ⊥) → g.records ≡ f.records
  same_records same several = ⊎_elim (λ one.
      same_by_destination f.kind f.records g.records was.destination was.goes still.records one
      (ap (λ kind. said_destination kind g.records) (sym still.kind) ∙ sym same ∙ remembers.destination))
      (λ mixed. ⊎_elim (λ records. records) (λ one. absurd (mixed one))
      (same_or_one_node f.kind f.records g.records was.destination was.goes still.records)) (one_or_several several)

  -- where its headers are written anew, they name one node
  pub names_one_still : (k.destination ≡ said_destination g.kind g.records → AreOne (named_nodes None g.records))
      → NameOneNode g.kind g.records
  names_one_still one = ⊎_elim (λ (same : g.records ≡ f.records).
      one_is_named g.kind g.records is.destination is.goes
      (one (remembers.destination ∙ sym (λ i. said_destination (still.kind i) (same i)))))
      (subst (λ kind. NameOneNode kind g.records) (sym still.kind))
      (same_or_one_node f.kind f.records g.records was.destination was.goes still.records)

-- ---- beside what is remembered

module _ (m : Memory) (i : ℕ) (k : KeptWhole) (there : i < length m.own.whole) (is : k ≡ get_or m.own.whole i k) where
  module _ (s : SpoolContents) (files : List WholeFile) (has : HasFiles m s files) (f : WholeFile)
      (found : f ≡ get_or files i f) where
    at : BesideAt (IsKept s) (own_rows m.own.name s) files i k
    at = kept_at m s files has i k there is

    here : at.third ≡ f
    here = at.third_is ∙ get_or_default files i at.third f at.third_there ∙ sym found

    kept_here : IsKept s k at.second f
    kept_here = subst (IsKept s k at.second) here at.holds

    headers_here : HasHeaders f.kind f.records
    headers_here = all_at (λ h. HasHeaders h.kind h.records) files i f has.headers at.third_there found

  abbrev pub memory_changed : KeptWhole → Memory
  memory_changed now = record {
    numbers = m.numbers;
    own = record m.own { whole = set m.own.whole i now };
    text = m.text;
  }

  module _ (now : KeptWhole) (id : now.id ≡ k.id) (key : now.key ≡ k.key) where
    same_uses : (n : ℕ) → (claim_of (memory_changed now)).uses n ≡ (claim_of m).uses n
    same_uses n = uses_as_one_changes m.numbers m.own i k now there is key n

    module _ (s : SpoolContents) (files : List WholeFile) (has : HasFiles m s files) (g : WholeFile)
        (before : IsStillAt files i g) (headers : HasHeaders g.kind g.records) (remembers : Remembers now g) where
      all_headers : AllByRecursion (λ h. HasHeaders h.kind h.records) (set files i g)
      all_headers = all-set (λ h. HasHeaders h.kind h.records) files i g has.headers headers

      -- nothing is written
      state_goes : now.is_sent ≡ k.is_sent → is_held g.state ≡ is_held before.before.state
          → g.records ≡ before.before.records → GoesTo m (memory_changed now) s s (set files i g)
      state_goes sent held same =
          goes m (memory_changed now) s s files (set files i g) has
          (moves_memory (claim_of m) (claim_of (memory_changed now)) s refl
          (λ n. let as_was = same_uses n in omega (arith, as_was)) has.ordered (omega arith))
          (state_changes s m.own files has.ordered has.mirrored i k there is before.before g now before.is
          before.still.kind held same id key sent remembers) refl all_headers (remain_same m.own.partial)
          (all_of (λ (p : KeptPartial). records_of p.key s ≡ records_of p.key s) (λ p. refl) m.own.partial)

      -- its row is written anew
      row_goes : (row : File) → IsRowFor m.text k.key now.is_sent (file_summary g) row
          → IsStored s k.key g.kind
          (with_mark now.is_sent (field_text (said_destination g.kind g.records).node)) g.records
          → GoesTo m (memory_changed now) s (with_changed k.id row s) (set files i g)
      row_goes row is_row stored =
          let under : WritesUnder k.key s s =
          record { files = refl; ordered = has.ordered; others = λ other apart. refl } in
          let owned = is_row.owned m.own.name has.named in
          goes m (memory_changed now) s (with_changed k.id row s) files (set files i g) has
          (changing_moves s m.own files has.ordered has.mirrored i k there is s under row owned (claim_of m)
          (claim_of (memory_changed now)) refl refl refl (λ n. let as_was = same_uses n in omega (arith, as_was))
          (λ n. omega arith)) (file_changes s m.own files has.ordered has.mirrored i k there is s under row owned g now
          (let once = has.apart k.key in omega (arith, once)) id key (is_row.of_file g refl)
          (ap is_sent is_row.node ∙ is_sent_back now.is_sent (said_destination g.kind g.records).node) remembers
          (subst (λ text. IsStored s k.key g.kind text g.records) (sym is_row.node) stored)) refl
          all_headers (remain_same m.own.partial)
          (all_of (λ (p : KeptPartial). records_of p.key s ≡ records_of p.key s) (λ p. refl) m.own.partial)

  -- ---- as the hub has the file now

  module _ (g : WholeFile) (summary : FileSummaryView) (summary_is : summary ≡ file_summary g)
      (headers : HasHeaders g.kind g.records) where
    state_is : summary.state ≡ g.state
    state_is = ap (λ (x : FileSummaryView). x.state) summary_is

    destination_is : summary.destination ≡ said_destination g.kind g.records
    destination_is = ap (λ (x : FileSummaryView). x.destination) summary_is

    abbrev now_rewritten : KeptWhole
    now_rewritten = record k {
      state = summary.state;
      destination = summary.destination;
      is_mixed = false;
      is_sent = is_name summary.destination.node;
    }

    abbrev now_kept : KeptWhole
    now_kept = record k { state = summary.state }

    -- whether it was sent elsewhere, and what is remembered of it then
    pub record IsDecided (sent_on : Bool) (now : KeptWhole) : Type 0 where
      pub rewritten : sent_on ≡ true → now ≡ now_rewritten
      pub still : sent_on ≡ false → now ≡ now_kept
      pub one : sent_on ≡ true → k.destination ≡ summary.destination → AreOne (named_nodes None g.records)
      pub same : sent_on ≡ false → k.destination ≡ summary.destination
      pub several : sent_on ≡ false → k.is_mixed ≡ true → AreOne (named_nodes None g.records) → ⊥

    module _ (s : SpoolContents) (files : List WholeFile) (has : HasFiles m s files)
        (before : IsStillAt files i g) where
      kept : IsKept s k (at s files has before.before before.is).second before.before
      kept = kept_here s files has before.before before.is

      was : HasHeaders before.before.kind before.before.records
      was = headers_here s files has before.before before.is

      -- its text for the node, and what it was
      abbrev text : List ℕ
      text = (at s files has before.before before.is).second.1.to_node

      its_kind : IsStored s k.key before.before.kind text before.before.records
          → IsStored s k.key g.kind text before.before.records
      its_kind = subst (λ x. IsStored s k.key x text before.before.records) (sym before.still.kind)

      its_row : (b : Bool) (row : File) → IsRowFor m.text k.key b summary row
          → IsRowFor m.text k.key b (file_summary g) row
      its_row b row = subst (λ x. IsRowFor m.text k.key b x row) summary_is

      -- its row says that it was sent elsewhere
      rewritten_goes : (k.destination ≡ summary.destination → AreOne (named_nodes None g.records))
          → (row : File) → IsRowFor m.text k.key now_rewritten.is_sent summary row
          → GoesTo m (memory_changed now_rewritten) s (with_changed k.id row s) (set files i g)
      rewritten_goes one row is_row =
          let names_one = names_one_still k before.before g kept.remembers before.still was headers
          (λ said. one (said ∙ sym destination_is)) in
          let rerouted = subst (λ kind. IsRerouted kind before.before.records g.records) (sym before.still.kind)
          before.still.records in
          row_goes now_rewritten refl refl s files has g before headers
          (record {
            number = kept.remembers.number ∙ sym before.still.number;
            records = kept.remembers.records ∙ sym (rerouted_long g.kind before.before.records g.records rerouted);
            state = state_is;
            destination = destination_is;
            mixed = λ _. names_one;
          }) row (its_row now_rewritten.is_sent row is_row)
          (subst (λ (u : User). IsStored s k.key g.kind (with_mark (is_name u.node)
          (field_text (said_destination g.kind g.records).node)) g.records) (sym destination_is)
          (sent_stored s k.key g.kind text before.before.records (its_kind kept.stored) g.records rerouted
          headers.destination headers.goes names_one))

      module _ (same : k.destination ≡ summary.destination)
          (several : k.is_mixed ≡ true → AreOne (named_nodes None g.records) → ⊥) where
        as_was : g.records ≡ before.before.records
        as_was = same_records k before.before g kept.remembers before.still was headers (same ∙ destination_is) several

        remembers_kept : Remembers now_kept g
        remembers_kept = record {
          number = kept.remembers.number ∙ sym before.still.number;
          records = kept.remembers.records ∙ sym (ap length as_was);
          state = state_is;
          destination = same ∙ destination_is;
          mixed = λ one. subst (λ kind. NameOneNode kind g.records) (sym before.still.kind)
              (subst (λ rs. NameOneNode before.before.kind rs) (sym as_was) (kept.remembers.mixed one));
        }

        -- nothing was written
        kept_goes : is_held summary.state ≡ is_held k.state → GoesTo m (memory_changed now_kept) s s (set files i g)
        kept_goes held =
            state_goes now_kept refl refl s files has g before headers remembers_kept refl
            (ap is_held (sym state_is) ∙ held ∙ ap is_held kept.remembers.state) as_was

        -- its row was written anew
        held_goes : (row : File) → IsRowFor m.text k.key k.is_sent summary row
            → GoesTo m (memory_changed now_kept) s (with_changed k.id row s) (set files i g)
        held_goes row is_row =
            row_goes now_kept refl refl s files has g before headers remembers_kept row (its_row k.is_sent row is_row)
            (still_stored s k.key g.kind text g.records
            (subst (λ rs. IsStored s k.key g.kind text rs) (sym as_was) (its_kind kept.stored))
            headers.destination headers.goes k.is_sent kept.sent)

      -- ---- by what was decided

      -- its row is written anew
      pub row_changes : (sent_on : Bool) (now : KeptWhole) → IsDecided sent_on now → (row : File)
          → IsRowFor m.text now.key now.is_sent summary row
          → GoesTo m (memory_changed now) s (with_changed now.id row s) (set files i g)
      row_changes true now is row =
          subst (λ (x : KeptWhole). IsRowFor m.text x.key x.is_sent summary row
          → GoesTo m (memory_changed x) s (with_changed x.id row s) (set files i g)) (sym (is.rewritten refl))
          (rewritten_goes (is.one refl) row)
      row_changes false now is row =
          subst (λ (x : KeptWhole). IsRowFor m.text x.key x.is_sent summary row
          → GoesTo m (memory_changed x) s (with_changed x.id row s) (set files i g)) (sym (is.still refl))
          (held_goes (is.same refl) (is.several refl) row)

      -- it stays
      pub row_stays : (sent_on : Bool) (now : KeptWhole) → IsDecided sent_on now → sent_on ≡ false
          → is_held now.state ≡ is_held k.state → GoesTo m (memory_changed now) s s (set files i g)
      row_stays true now is never = absurd (cc never)
      row_stays false now is _ =
          subst (λ (x : KeptWhole). is_held x.state ≡ is_held k.state
          → GoesTo m (memory_changed x) s s (set files i g)) (sym (is.still refl))
          (kept_goes (is.same refl) (is.several refl))
