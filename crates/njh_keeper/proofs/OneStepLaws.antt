-- A customer's step: its whole files are followed, and then those that aren't whole, from what the spool file had of
-- it.
use Rattle.njh_keeper.proofs.Words
use Words.{◌≡◌, Bool, false, List, map, true, sym, subst, ◌∙◌, recursion_from_All, State, HasHeaders, Holds}
use Words.{SpoolContents, Whole, WholeFile, Part, IsLed, kept_file, AreFronts, GoOnIn, GoesTo, HasFiles}
use Words.{LeadsFiles, Memory, HasOwn, IsSoundPart, StepGoes, Leads, AllClosed, AllUpToDate, IsUpToDate, KeepsOn}
use Words.{KeptPartial, Mirrored, file_in, is_name_of, own_files, claim_of, GoesOn}
use Rattle.njh_keeper.proofs.{FollowingLaws.all_remain, GrowthLaws.{led_grows, goes_on_in, fronts_of_step}}
use Rattle.njh_keeper.proofs.{GrowthLaws.partials_go_on, LeftLaws.{mirrored_is_read_back, some_of}}
use Rattle.njh_keeper.proofs.{MirrorLaws.moves_then, NumberedLaws.all_weaker, OneSpool.one_spool, PartlyLaws.still_all}

-- what is kept of a customer's files is what it was, where its spool file is
kept_still : (m m1 : Memory) (s t : SpoolContents) (files now : List WholeFile) → t ≡ s → m1.own.name ≡ m.own.name
    → Mirrored s m.own files → Mirrored t m1.own now → map kept_file files ≡ map kept_file now
kept_still m m1 s t files now here name before behind =
    some_of (map kept_file files) (map kept_file now) (sym (mirrored_is_read_back s m.own files before)
    ∙ sym (λ i. map (λ (w : Whole). file_in w.file w.records) (own_files (name i) (here i)))
    ∙ mirrored_is_read_back t m1.own now behind)

module _ (m m1 m2 : Memory)
    (changed changed2 : Bool) (before now : Part) (led : IsLed before now) (sound : IsSoundPart before)
    (old mid new : State)
    (followed : LeadsFiles (λ s files. GoOnIn m.own.arrived files now.customer
    × AreFronts s m.own.partial now.customer.spool.whole) (λ files fs. fs ≡ now.customer.spool.whole)
    (record { memory = m; shows = old }) (record { memory = m1; shows = mid }))
    (arrived : m1.own.arrived ≡ now.customer.spool.arrived)
    (kept : Leads (KeepsOn m1.numbers m1.own m2.numbers m2.own now.customer.spool) mid new)
    (seen : AllClosed m1.own → AllUpToDate now.customer.spool m2.own)
    (text : m2.text ≡ m1.text) (name : m2.own.name ≡ m1.own.name) (still_arrived : m2.own.arrived ≡ m1.own.arrived)
    (quiet : changed2 ≡ false → (changed ≡ false) × (mid ≡ old)) where
  pub step_leads : Leads (λ s t. HasOwn m s before.customer.spool
      → StepGoes m m2 changed changed2 before.customer.spool now.customer.spool s t) old new
  step_leads = record {
    leads = λ s stands.
        let first = followed.leads s stands in
        let t = first.0 in
        let second = kept.leads (record s { now = t }) first.1 in
        let u = second.0 in (
          u,
          second.1,
          λ has.
              let h = has.has in
              let files = before.customer.spool.whole in
              let grown = led_grows before now led sound.rests in
              let given : HasFiles m s.now files = record {
                ordered = has.ordered;
                below = has.below;
                apart = has.apart;
                named = has.named;
                mirrored = h.mirrored;
                headers = recursion_from_All (λ (f : WholeFile). HasHeaders f.kind f.records) files sound.headers;
              } in
              let to = first.2 files given (
                subst (λ n. GoOnIn n files now.customer) (sym h.arrived) (goes_on_in before now sound.sound led),
                fronts_of_step grown.0 before.customer.spool now.customer.spool grown.1 grown.2 sound.sound s.now m.own
                    h.up_to_date h.go_on,
              ) in
              let goes : GoesTo m m1 s.now t now.customer.spool.whole = subst (GoesTo m m1 s.now t) to.1 to.2 in
              let x = now.customer.spool in
              let rest = second.2 x.whole goes.has.ordered goes.has.apart goes.has.mirrored
              (still_all x s.now t m1.own.partial goes.records
              (all_remain (GoesOn x s.now) m.own.partial m1.own.partial goes.remain (partials_go_on grown.0
              before.customer.spool x grown.1 grown.2 sound.sound s.now m.own h.up_to_date h.go_on))) in
              let closed : AllClosed m1.own =
              all_remain (λ (p : KeptPartial). p.is_open ≡ false) m.own.partial m1.own.partial goes.remain
              (all_weaker (IsUpToDate before.customer.spool) (λ p. p.is_open ≡ false) (λ p up. up.closed) m.own.partial
              h.up_to_date) in
              record {
                moves = moves_then (claim_of m) (claim_of m1) (claim_of m2) s.now t u goes.moves rest.moves;
                named = subst (λ n. is_name_of m2.text n ≡ true) (sym name)
                    (subst (λ x. is_name_of x m1.own.name ≡ true) (sym text) goes.has.named);
                has = record {
                  arrived = still_arrived ∙ arrived;
                  mirrored = rest.mirrored;
                  up_to_date = seen closed;
                  go_on = rest.go_on;
                };
                still = λ unchanged.
                    let q = quiet unchanged in
                    let here : t ≡ s.now = one_spool t s.now mid.now.trees first.1.now
                    (subst (λ (at : State). Holds s.now at.now.trees) (sym q.1) stands.now) in (
                      q.0,
                      kept_still m m1 s.now t files x.whole here goes.moves.name h.mirrored goes.has.mirrored,
                    );
              },
        );
  }
