use Rattle.njh_keeper.proofs.Words
use Words.{rules, ◌≡◌, [], ◌∷◌, map, refl, ap, subst, ◌∙◌, map-append, ok_then, file_of, with_file, shown, Changes}
use Words.{FileSummaryView, IsRowFor, memory_of, numbers_of, whole_of, SpoolWriter, on_ok}
use Words.{nat_lt, not, ◌&&◌, is_name}
use Rattle.njh_keeper.proofs.{CountingLaws.rows_as_one_comes, SentLaws.marked_well}
use Rattle.njh_keeper.specs.declared.own_files.KeptWhole as declared
use Rattle.njh_keeper.proofs.adding.add_row.Goals as goal

pub returns-clause-added : goal.returns-clause-added
returns-clause-added g c f hub_file clean =
    let new = shown g.S.Store c.add_file-added.new.self.store in
    let m = memory_of c.args.writer.now c.args.own.now in
    let summary = c.args.summary.now in
    let now : declared.KeptWhole = record {
      id = c.in_ok-take_id.field-0;
      key = c.args.place.key;
      number = c.args.file.now.number;
      records = summary.records;
      state = summary.state;
      destination = summary.destination;
      is_mixed = c.names_several-is_mixed.result;
      is_sent = c.may_be_sent.result;
      came = c.take_id.new.self.now;
    } in
    let row = file_of c.in_ok-row.row in
    let before : shown g.S.Store c.take_id.new.self.store ≡ shown g.S.Store c.args.writer.now.store =
    ap (λ (x : SpoolWriter g.row.S.Denot). shown g.S.Store x.store) c.in_ok-take_id.ensures.others in
    ok_then c.add_file-added.result _ _
    (λ changed. record {
      kept = whole_of now;
      row = row;
      id = c.in_ok-take_id.ensures.taken;
      key_is = refl;
      remembers = record {
        number = hub_file.number_is;
        records = ap (λ (x : FileSummaryView). x.records) hub_file.summary_is;
        state = ap (λ (x : FileSummaryView). x.state) hub_file.summary_is;
        destination = ap (λ (x : FileSummaryView). x.destination) hub_file.summary_is;
        mixed = λ none. c.names_several-is_mixed.ensures.one f hub_file none;
      };
      memory = λ j. record {
        numbers = (ap numbers_of c.add_file-added.ensures.others ∙ ap numbers_of c.in_ok-take_id.ensures.others) j;
        own = record m.own {
          whole = (ap (map whole_of) c.in_ok-push.ensures.items
              ∙ map-append whole_of c.args.own.now.whole.items (now ∷ [])) j;
        };
        text = m.text;
      };
      mark = marked_well f c.args.place.written c.names_several-is_mixed.result c.may_be_sent.result
          (c.may_be_sent.ensures
          ∙ ap (λ (x : FileSummaryView). nat_lt 0 c.args.place.written
          && (not c.names_several-is_mixed.result && is_name x.destination.node)) hub_file.summary_is)
          (λ none. c.names_several-is_mixed.ensures.one f hub_file none)
          (λ some. c.names_several-is_mixed.ensures.several f hub_file some);
      is_row = (let is : IsRowFor m.text c.args.place.key now.is_sent summary row = search rules in is);
      changes = subst (λ x. Changes (with_file now.id row) x new) before changed;
    }) (c.add_file-added.ensures.changed clean)

pub returns-clause-rows : goal.returns-clause-rows
returns-clause-rows g c = on_ok c.add_file-added.result (
  rows_as_one_comes c.args.own.now _ _ c.in_ok-push.ensures.items,
  ap (λ (x : SpoolWriter g.row.S.Denot). x.waiting) c.add_file-added.ensures.others
      ∙ ap (λ (x : SpoolWriter g.row.S.Denot). x.waiting) c.in_ok-take_id.ensures.others,
)

pub returns-clause-due : goal.returns-clause-due
returns-clause-due g c = on_ok c.add_file-added.result
    (ap (λ (x : SpoolWriter g.row.S.Denot). x.is_changed) c.add_file-added.ensures.others)
