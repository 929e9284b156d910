-- What is gathered, and what is done for each name.
use Rattle.std.proofs.Common.{◌≡◌, ◌++◌, ◌∷◌, ◌+◌, ◌<◌, List, [], ℕ, get_or, length, map, take, sym, ap, subst, ◌∙◌}
use Rattle.std.proofs.Common.{append_assoc, append-nil}
use Rattle.std.specs.Prelude.{String, string_bytes}
use Rattle.std.specs.declared.alloc.Global.{Global}
use Rattle.serde_json.specs.Data.{Data}
use Rattle.njh_ctl.proofs.RowLaws.{map_take_more}
use Rattle.njh_ctl.specs.Asked.{AddsEach, AddsOne, AreItems, no_item, one_item_more}
use Rattle.njh_ctl.specs.Orders.{TalkView}
use Rattle.njh_ctl.specs.Talks.{ForEach, each_goes_on}

-- one name more
pub each_more : (this : List ℕ → TalkView → TalkView → Type 0) (old mid new : TalkView) (names : List (String Global))
    (i : ℕ) (name : String Global) → i < length names → name ≡ get_or names i name
    → ForEach this old (map string_bytes (take i names)) mid → this (string_bytes name) mid new
    → ForEach this old (map string_bytes (take (i + 1) names)) new
each_more this old mid new names i name within is so_far one =
    subst (λ (some : List (List ℕ)). ForEach this old some new)
    (sym (map_take_more string_bytes names i name within is))
    (each_goes_on (map string_bytes (take i names)) (string_bytes name) mid new so_far one)

-- nothing so far
pub adds_none : {A : Type 0} (is : Data → A → Type 0) (before : List A) → AddsEach is [] before before
adds_none is before = record { more = []; are = no_item; all = sym (append-nil before) }

-- one more
pub adds_more : {A : Type 0} (is : Data → A → Type 0) (ds all : List Data) (d : Data) (before mid after : List A)
    → AddsEach is ds before mid → AddsOne is d mid after → all ≡ ds ++ (d ∷ []) → AddsEach is all before after
adds_more {A} is ds all d before mid after so_far one same = record {
  more = so_far.more ++ (one.one ∷ []);
  are = subst (λ (list : List Data). AreItems is list (so_far.more ++ (one.one ∷ []))) (sym same)
      (one_item_more ds so_far.more d one.one so_far.are one.one_is);
  all = one.all ∙ ap (λ (some : List A). some ++ (one.one ∷ [])) so_far.all
      ∙ append_assoc before so_far.more (one.one ∷ []);
}
