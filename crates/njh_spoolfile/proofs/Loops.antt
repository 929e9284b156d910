-- A loop that reads rows one after the other.
use Rattle.std.proofs.Common.{◌≡◌, ℕ, ◌+◌, ◌<◌, List, [], ◌∷◌, ◌++◌, map, flat_map, take, length, get_or, sym, ap}
use Rattle.std.proofs.Common.{◌∙◌, arith}
use Rattle.std.proofs.lemmas.List.{flat_map_more, length-map, get_or-map, map-append, take_more}
use Rattle.sqlite.specs.Order.{Row}

module _ {A B S : Type 0} (shown : A → Row) (value : A → B) (entry : S → B) (rows : List Row) (done : List S) (x : S)
    (at : ℕ) (row : Row) where
  pub read_more : at < length rows → row ≡ get_or rows at row → ((e : A) → row ≡ shown e → entry x ≡ value e)
      → ((all : List A) → rows ≡ map shown all → map entry done ≡ map value (take at all))
      → (all : List A) → rows ≡ map shown all → map entry (done ++ x ∷ []) ≡ map value (take (at + 1) all)
  read_more low here one so_far [] is = absurd (omega (arith, low, ap length is))
  read_more low here one so_far (a ∷ rest) is =
      let all = a ∷ rest in
      let within : at < length all = omega (arith, low, ap length is, length-map all shown) in
      let this : row ≡ shown (get_or all at a) =
      here ∙ ap (λ l. get_or l at row) is ∙ get_or-map shown all at a row within in
      map-append entry done (x ∷ [])
      ∙ (λ i. so_far all is i ++ one (get_or all at a) this i ∷ [])
      ∙ sym (ap (map value) (take_more all at a within) ∙ map-append value (take at all) (get_or all at a ∷ []))

module _ {A B : Type 0} (shown : A → Row) (values : A → List B) (rows : List Row) (at : ℕ) (row : Row)
    (done more : List B) where
  pub read_all_more : at < length rows → row ≡ get_or rows at row → ((e : A) → row ≡ shown e → more ≡ values e)
      → ((all : List A) → rows ≡ map shown all → done ≡ flat_map values (take at all))
      → (all : List A) → rows ≡ map shown all → done ++ more ≡ flat_map values (take (at + 1) all)
  read_all_more low here one so_far [] is = absurd (omega (arith, low, ap length is))
  read_all_more low here one so_far (a ∷ rest) is =
      let all = a ∷ rest in
      let within : at < length all = omega (arith, low, ap length is, length-map all shown) in
      let this : row ≡ shown (get_or all at a) =
      here ∙ ap (λ l. get_or l at row) is ∙ get_or-map shown all at a row within in
      (λ i. so_far all is i ++ one (get_or all at a) this i)
      ∙ flat_map_more values [] (take at all) (get_or all at a)
      ∙ sym (ap (flat_map values) (take_more all at a within))
