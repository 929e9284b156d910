-- Names in buckets: what is before the end of a name's bucket is all that can be the name, and one more name.
use Rattle.std.proofs.Common.{◌≡◌, ℕ, zero, suc, ◌+◌, ◌-◌, ◌<◌, ◌≤◌, Bool, true, false, cond, ◌||◌, ◌==◌, List, []}
use Rattle.std.proofs.Common.{◌∷◌, ◌++◌, nat_lt, length, take, get_or, set, bytes_eq, refl, sym, ap, subst, ◌∙◌}
use Rattle.std.proofs.Common.{arith, add-one}
use Rattle.std.specs.List.{list_any}
use Rattle.std.proofs.lemmas.Bool.{eq-eqb, eqb-true, both_ways, ltb-true, ltb-false}
use Rattle.std.proofs.lemmas.Grind.{get_or-set_at}
use Rattle.std.proofs.lemmas.List.{get_or_append_left, get_or_push, get_or-set_other, length-append, take_all}
use Rattle.std.proofs.lemmas.List.{take_more}
use Rattle.std.proofs.lemmas.List.Folds.{list_any-append, list_any_at}
use Rattle.std.proofs.lemmas.Slice.Eq.{bytes_eq-Decides}
use Rattle.njh_table.specs.code.Buckets.{bucket_of, bucket_at, end_of, IsIndexed}
use Rattle.njh_table.specs.declared.nodes.TheConstants.{BUCKETS}

-- ---- the end of a bucket

below : (same : Bool) (n end : ℕ) → end ≤ n → cond same (suc n) end ≤ suc n
below true n end le = omega arith
below false n end le = omega arith

pub end-le : (names : List (List ℕ)) (bucket n : ℕ) → end_of names bucket n ≤ n
unfolding end_of
end-le names bucket zero = omega arith
end-le names bucket (suc n) = below (bucket_at names n == bucket) n (end_of names bucket n) (end-le names bucket n)

last-at : (names : List (List ℕ)) (bucket n end : ℕ) (same : Bool) → (bucket_at names n == bucket) ≡ same
    → (0 < end → bucket_at names (end - 1) ≡ bucket) → 0 < cond same (suc n) end
    → bucket_at names (cond same (suc n) end - 1) ≡ bucket
last-at names bucket n end true is last some =
    let back : suc n - 1 ≡ n = omega arith in
    ap (bucket_at names) back ∙ eqb-true (bucket_at names n) bucket is
last-at names bucket n end false is last some = last some

-- the last name before the end of a bucket is in it
end-bucket : (names : List (List ℕ)) (bucket n : ℕ) → 0 < end_of names bucket n
    → bucket_at names (end_of names bucket n - 1) ≡ bucket
unfolding end_of
end-bucket names bucket zero some = absurd (omega (arith, some))
end-bucket names bucket (suc n) some =
    last-at names bucket n (end_of names bucket n) (bucket_at names n == bucket) refl (end-bucket names bucket n) some

-- names behind change nothing
end-push : (names more : List (List ℕ)) (bucket n : ℕ) → n ≤ length names
    → end_of (names ++ more) bucket n ≡ end_of names bucket n
unfolding end_of
end-push names more bucket zero within = refl
end-push names more bucket (suc n) within =
    ap (λ name. cond (bucket_of name == bucket) (suc n) (end_of (names ++ more) bucket n))
    (get_or_append_left names more [] n (omega (arith, within)))
    ∙ ap (λ end. cond (bucket_at names n == bucket) (suc n) end) (end-push names more bucket n (omega (arith, within)))

-- ---- a name among those before an end

or_not : (a b : Bool) → b ≡ false → (a || (b || false)) ≡ a
or_not true b e = refl
or_not false true e = absurd (cc e)
or_not false false e = refl

-- without the last, which is another
one_less : (names : List (List ℕ)) (name : List ℕ) (n : ℕ) → n < length names
    → bytes_eq name (get_or names n []) ≡ false
    → list_any (bytes_eq name) (take (n + 1) names) ≡ list_any (bytes_eq name) (take n names)
one_less names name n within other =
    ap (list_any (bytes_eq name)) (take_more names n [] within)
    ∙ list_any-append (bytes_eq name) (take n names) (get_or names n [] ∷ [])
    ∙ or_not (list_any (bytes_eq name) (take n names)) (bytes_eq name (get_or names n [])) other

-- a name in another bucket is another
other_bucket : (name other : List ℕ) → (bucket_of other == bucket_of name) ≡ false → bytes_eq name other ≡ false
other_bucket name other apart = by (bytes_eq name other) refl
  where
    by : (same : Bool) → bytes_eq name other ≡ same → bytes_eq name other ≡ false
    by true is = absurd (both_ways (bucket_of other == bucket_of name) apart
        (eq-eqb (bucket_of other) (bucket_of name) (ap bucket_of (sym ((bytes_eq-Decides name other).0 is)))))
    by false is = is

any-step : (names : List (List ℕ)) (name : List ℕ) (n end : ℕ) (same : Bool)
    → (bucket_at names n == bucket_of name) ≡ same → n < length names
    → list_any (bytes_eq name) (take end names) ≡ list_any (bytes_eq name) (take n names)
    → list_any (bytes_eq name) (take (cond same (suc n) end) names) ≡ list_any (bytes_eq name) (take (suc n) names)
any-step names name n end true is within before = refl
any-step names name n end false is within before =
    before ∙ sym (one_less names name n within (other_bucket name (get_or names n []) is))
    ∙ ap (λ k. list_any (bytes_eq name) (take k names)) (add-one n)

any-end : (names : List (List ℕ)) (name : List ℕ) (n : ℕ) → n ≤ length names
    → list_any (bytes_eq name) (take (end_of names (bucket_of name) n) names) ≡ list_any (bytes_eq name) (take n names)
unfolding end_of
any-end names name zero within = refl
any-end names name (suc n) within =
    any-step names name n (end_of names (bucket_of name) n) (bucket_at names n == bucket_of name) refl
    (omega (arith, within)) (any-end names name n (omega (arith, within)))

-- ---- the search

-- The first names, as many as these, have a name where all have it; the last of them is in its bucket.
pub record IsLeft (names : List (List ℕ)) (name : List ℕ) (count : ℕ) : Type 0 where
  pub within : count ≤ length names
  pub bucket : 0 < count → bucket_at names (count - 1) ≡ bucket_of name
  pub same : list_any (bytes_eq name) (take count names) ≡ list_any (bytes_eq name) names

left_at : (names : List (List ℕ)) (name : List ℕ) (n : ℕ) → n ≤ length names
    → list_any (bytes_eq name) (take n names) ≡ list_any (bytes_eq name) names
    → IsLeft names name (end_of names (bucket_of name) n)
left_at names name n within same = record {
  within = omega (arith, within, end-le names (bucket_of name) n);
  bucket = end-bucket names (bucket_of name) n;
  same = any-end names name n within ∙ same;
}

pub left_first : (names : List (List ℕ)) (name : List ℕ) (end : ℕ) → end ≡ end_of names (bucket_of name) (length names)
    → IsLeft names name end
left_first names name end is =
    subst (IsLeft names name) (sym is)
    (left_at names name (length names) (omega arith)
    (ap (list_any (bytes_eq name)) (take_all (length names) names (omega arith))))

pub left_next : (names : List (List ℕ)) (name : List ℕ) (count end : ℕ) → IsLeft names name count → 0 < count
    → end ≡ end_of names (bucket_at names (count - 1)) (count - 1) → bytes_eq name (get_or names (count - 1) []) ≡ false
    → IsLeft names name end
left_next names name count end left some is other =
    let less : count - 1 < length names = omega (arith, some, left.within) in
    let back : count - 1 + 1 ≡ count = omega (arith, some) in
    subst (IsLeft names name) (sym (is ∙ ap (λ bucket. end_of names bucket (count - 1)) (left.bucket some)))
    (left_at names name (count - 1) (omega (arith, less))
    (sym (one_less names name (count - 1) less other) ∙ ap (λ k. list_any (bytes_eq name) (take k names)) back
    ∙ left.same))

pub found : (names : List (List ℕ)) (name : List ℕ) (count : ℕ) → IsLeft names name count → 0 < count
    → bytes_eq name (get_or names (count - 1) []) ≡ true → list_any (bytes_eq name) names ≡ true
found names name count left some is =
    list_any_at (bytes_eq name) names (count - 1) [] (omega (arith, some, left.within)) is

pub none_left : (names : List (List ℕ)) (name : List ℕ) (count : ℕ) → IsLeft names name count → count ≡ 0
    → list_any (bytes_eq name) names ≡ false
none_left names name count left none =
    sym left.same ∙ ap (λ k. list_any (bytes_eq name) (take k names)) none

-- ---- one more name

end_set : (names : List (List ℕ)) (ends : List ℕ) (name : List ℕ) (bucket : ℕ) (same : Bool)
    → (bucket_of name == bucket) ≡ same → bucket_of name < length ends
    → get_or ends bucket 0 ≡ end_of names bucket (length names)
    → get_or (set ends (bucket_of name) (length names + 1)) bucket 0
    ≡ cond same (suc (length names)) (end_of names bucket (length names))
end_set names ends name bucket true is within was =
    get_or-set_at ends (bucket_of name) bucket (length names + 1) 0 (sym (eqb-true (bucket_of name) bucket is)) within
    ∙ add-one (length names)
end_set names ends name bucket false is within was =
    get_or-set_other ends (bucket_of name) bucket (length names + 1) 0
    (λ same. both_ways (bucket_of name == bucket) is (eq-eqb (bucket_of name) bucket (sym same)))
    ∙ was

long : (names : List (List ℕ)) (name : List ℕ) → length (names ++ name ∷ []) ≡ suc (length names)
long names name = length-append names (name ∷ []) ∙ add-one (length names)

end_now : (names : List (List ℕ)) (name : List ℕ) (bucket : ℕ)
    → end_of (names ++ name ∷ []) bucket (length (names ++ name ∷ []))
    ≡ cond (bucket_of name == bucket) (suc (length names)) (end_of names bucket (length names))
unfolding end_of
end_now names name bucket =
    ap (end_of (names ++ name ∷ []) bucket) (long names name)
    ∙ ap (λ last. cond (bucket_of last == bucket) (suc (length names))
    (end_of (names ++ name ∷ []) bucket (length names)))
    (get_or_push names name [] (length names) refl)
    ∙ ap (λ end. cond (bucket_of name == bucket) (suc (length names)) end)
    (end-push names (name ∷ []) bucket (length names) (omega arith))

before_now : (names : List (List ℕ)) (before : List ℕ) (name : List ℕ) (end k : ℕ) → length before ≡ length names
    → ((k : ℕ) → k < length names → get_or before k 0 ≡ end_of names (bucket_at names k) k)
    → end ≡ end_of names (bucket_of name) (length names) → (old : Bool) → nat_lt k (length names) ≡ old
    → k < length (names ++ name ∷ []) → get_or (before ++ end ∷ []) k 0 ≡ end_of (names ++ name ∷ [])
    (bucket_at (names ++ name ∷ []) k) k
before_now names before name end k count were is true old within =
    let less : k < length names = ltb-true k (length names) old in
    get_or_append_left before (end ∷ []) 0 k (omega (arith, less, count))
    ∙ were k less
    ∙ sym (end-push names (name ∷ []) (bucket_at names k) k (omega (arith, less)))
    ∙ ap (λ at. end_of (names ++ name ∷ []) (bucket_of at) k) (sym (get_or_append_left names (name ∷ []) [] k less))
before_now names before name end k count were is false new within =
    let last : length names ≡ k = omega (arith, ltb-false k (length names) new, within, long names name) in
    get_or_push before end 0 k (count ∙ last)
    ∙ is
    ∙ ap (end_of names (bucket_of name)) last
    ∙ sym (end-push names (name ∷ []) (bucket_of name) k (omega (arith, last)))
    ∙ ap (λ at. end_of (names ++ name ∷ []) (bucket_of at) k) (sym (get_or_push names name [] k last))

indexed_push : (names : List (List ℕ)) (before ends : List ℕ) (name : List ℕ) (end len : ℕ)
    → IsIndexed names before ends → bucket_of name < BUCKETS → length ends ≡ BUCKETS
    → end ≡ get_or ends (bucket_of name) 0 → len ≡ length names + 1
    → IsIndexed (names ++ name ∷ []) (before ++ end ∷ []) (set ends (bucket_of name) len)
indexed_push names before ends name end len was bucket wide is now = record {
  count = omega (arith, length-append names (name ∷ []), length-append before (end ∷ []), was.count);
  each_before = λ k within. before_now names before name end k was.count was.each_before
      (is ∙ was.each_end (bucket_of name) bucket)
      (nat_lt k (length names)) refl within;
  each_end = λ b within. ap (λ n. get_or (set ends (bucket_of name) n) b 0) now
      ∙ end_set names ends name b (bucket_of name == b) refl (omega (arith, bucket, wide)) (was.each_end b within)
      ∙ sym (end_now names name b);
}

pub indexed_pushed : (names names_now : List (List ℕ)) (before before_now ends : List ℕ) (name : List ℕ)
    (bucket len : ℕ) → IsIndexed names before ends → length ends ≡ BUCKETS → bucket ≡ bucket_of name → bucket < BUCKETS
    → names_now ≡ names ++ name ∷ [] → before_now ≡ before ++ get_or ends bucket 0 ∷ [] → len ≡ length names_now
    → IsIndexed names_now before_now (set ends bucket len)
indexed_pushed names names_now before before_now ends name bucket len was wide is within news befores count =
    subst (λ ns. IsIndexed ns before_now (set ends bucket len)) (sym news)
    (subst (λ bs. IsIndexed (names ++ name ∷ []) bs (set ends bucket len)) (sym befores)
    (subst (λ at. IsIndexed (names ++ name ∷ []) (before ++ get_or ends at 0 ∷ []) (set ends at len)) (sym is)
    (indexed_push names before ends name (get_or ends (bucket_of name) 0) len was (omega (arith, is, within)) wide refl
    (count ∙ ap length news ∙ length-append names (name ∷ [])))))

pub indexed_none : (names : List (List ℕ)) (before ends : List ℕ) → names ≡ [] → before ≡ []
    → ((bucket : ℕ) → bucket < BUCKETS → get_or ends bucket 0 ≡ 0) → IsIndexed names before ends
unfolding end_of
indexed_none names before ends none no_before zeroes =
    subst (λ ns. IsIndexed ns before ends) (sym none) (subst (λ bs. IsIndexed [] bs ends) (sym no_before) (record {
      count = refl;
      each_before = λ k within. absurd (omega (arith, within));
      each_end = zeroes;
    }))
