use Rattle.njh_keeper.proofs.Words
use Words.{◌≡◌, ◌<◌, ◌++◌, [], ◌∷◌, length, get_or, remove, map, refl, sym, ap, subst, ◌∙◌, map-append, ⊤, ok_then}
use Words.{shown, GoesTo, LeadsFiles, memory_of, numbers_of, own_of, sweep_in, whole_of, sweep_of, SpoolWriter}
use Words.{leads_by, leads_weaker, rows_of}
use Rattle.{std.specs.Prelude.string_bytes, njh_keeper.proofs.CountingLaws.rows_as_one_leaves}
use Rattle.njh_keeper.proofs.{FollowingLaws.{file_goes, memory_without}, ListLaws.{at_place, map-remove, within_seen}}
use Rattle.njh_keeper.specs.declared.own_files.OwnFiles.{OwnFiles}
use Rattle.njh_keeper.proofs.following.drop_at.Goals as goal

pub returns-clause-led : goal.returns-clause-led
returns-clause-led g c clean =
    let old = shown g.S.Store c.args.writer.now.store in
    let new = shown g.S.Store c.drop_file.new.self.store in
    let i = c.args.place in
    let m = memory_of c.args.writer.now c.args.own.now in
    let gone = c.remove-gone.result in
    let k = whole_of gone in
    let sweep = sweep_in (sweep_of gone.key gone.records) in
    let items = c.args.own.now.whole.items in
    let there : i < length m.own.whole = within_seen whole_of items i c.requires in
    let is : k ≡ get_or m.own.whole i k = at_place whole_of items i gone c.requires c.remove-gone.ensures.value in
    let others = c.sweep_later.ensures.others in
    let m' = memory_of c.drop_file.new.self c.sweep_later.new.own in
    let whole : map whole_of c.remove-gone.new.self.items ≡ remove m.own.whole i =
    ap (map whole_of) c.remove-gone.ensures.items ∙ map-remove whole_of items i in
    ok_then c.sweep_later.result _ _ (λ later.
    let sweeps : map sweep_in c.sweep_later.new.own.sweeps.items ≡ m.own.sweeps ++ sweep ∷ [] =
    ap (map sweep_in) later ∙ map-append sweep_in c.args.own.now.sweeps.items (sweep_of gone.key gone.records ∷ []) in
    let led : m' ≡ memory_without m i k sweep there is refl =
    λ j. record {
      numbers = ap numbers_of c.drop_file.ensures.others j;
      own = (ap own_of others ∙ (λ l. record m.own { whole = whole l; sweeps = sweeps l })) j;
      text = ap (λ (x : OwnFiles). string_bytes x.text) others j;
    } in
    subst (λ x. LeadsFiles (λ s files. ⊤) (λ files now. now ≡ remove files i) (record { memory = m; shows = old })
    (record { memory = x; shows = new })) (sym led)
    (leads_weaker (leads_by (c.in_ok-drop_file.ensures.changed clean)) (λ s t same files has given. (
      remove files i,
      refl,
      subst (λ u. GoesTo m (memory_without m i k sweep there is refl) s u (remove files i))
          (sym same) (file_goes m i k sweep there is refl s files has),
    )))) c.sweep_later.ensures.later

pub returns-clause-rows : goal.returns-clause-rows
returns-clause-rows g c =
    let gone = c.remove-gone.ensures in
    ok_then c.sweep_later.result _ _ (λ later. (
      ap rows_of c.sweep_later.ensures.others ∙ rows_as_one_leaves c.args.own.now c.args.place c.remove-gone.result
          c.requires gone.value _ gone.items _ later,
      ap (λ (x : SpoolWriter g.row.S.Denot). x.waiting) c.drop_file.ensures.others,
    )) c.sweep_later.ensures.later

pub returns-clause-memory : goal.returns-clause-memory
returns-clause-memory g c =
    ap (λ (x : OwnFiles). x.whole.items) c.sweep_later.ensures.others ∙ c.remove-gone.ensures.items
