-- A walk over a customer's files in order.
use Rattle.std.proofs.Common.{◌≡◌, ◌<◌, ◌≤◌, ◌+◌, ℕ, Bool, true, false, cond, not, ◌&&◌, List, [], ◌∷◌, ◌++◌, length}
use Rattle.std.proofs.Common.{take, drop, map, filter, fold, get_or, slice_set, refl, sym, ap, ap₂, ◌∙◌, add-one}
use Rattle.std.proofs.Common.{append_assoc}
use Rattle.std.specs.Prelude.{remove}
use Rattle.std.proofs.lemmas.List.{set-set, get_or-set_same, set-get_or, get_or_at, drop_more, take_all, map-append}
use Rattle.std.proofs.lemmas.List.{append-nil}
use Rattle.std.proofs.lemmas.List.Elements.{filter_more}
use Rattle.std.proofs.lemmas.List.Filters.{length-filter_more}
use Rattle.njh_ebcdic.specs.Users.{User}
use Rattle.njh_spool.specs.Spools.{spool_at, no_spool}
use Rattle.njh_spool.specs.CustomerSpool.{CustomerSpool, WholeFile}
use Rattle.njh_command.specs.declared.changing.FileClass.TheVariants.{Other, Busy, Idle}
use Rattle.njh_texts.specs.Texts.{file_line}
use Rattle.njh_command.specs.Commands.{changed_file, may_change, first_replies, is_owned}
use Rattle.njh_command.specs.code.Changes.{numbers_where, file_class_by, without_where}
use Rattle.njh_command.specs.Files.{file_at, no_file, with_file}
use Rattle.njh_command.proofs.UpTo.{changed_up_to, count_up_to, left_up_to, removed_up_to}
use Rattle.njh_stream.proofs.OnlyOneLaws.{changed_more, not_yet}
use Rattle.njh_command.proofs.ReplyLaws.{kept_more}

-- nothing was done to a customer, or to a file
pub unmoved : (old : List CustomerSpool) (c : ℕ) → old ≡ slice_set old c (spool_at c old)
unmoved old c = sym (set-get_or old c no_spool)

pub same_file : (s : CustomerSpool) (i : ℕ) → s ≡ with_file i (file_at i s) s
same_file s i = ap (λ files. record s { whole = files }) (sym (set-get_or s.whole i no_file))

-- a customer's spool that moves twice
pub part_of : (old now : List CustomerSpool) (c : ℕ) (x : CustomerSpool) → c < length old → now ≡ slice_set old c x
    → spool_at c now ≡ x
part_of old now c x range now_is = ap (spool_at c) now_is ∙ get_or-set_same old c x no_spool range

pub moved_twice :
    (old now new : List CustomerSpool) (c : ℕ) (x : CustomerSpool) (f : CustomerSpool → CustomerSpool) → c < length old
    → now ≡
    slice_set old c x
    → new ≡ slice_set now c (f (spool_at c now)) → new ≡ slice_set old c (f x)
moved_twice old now new c x f range now_is new_is =
    new_is
    ∙ ap₂ (λ m s. slice_set m c (f s)) now_is (part_of old now c x range now_is)
    ∙ set-set old c x (f x)

-- a file that moves twice
pub file_is : (s : CustomerSpool) (i : ℕ) (f : WholeFile) → i < length s.whole → file_at i (with_file i f s) ≡ f
file_is s i f inside = get_or-set_same s.whole i f no_file inside

pub file_twice : (s : CustomerSpool) (i : ℕ) (f g : WholeFile) → with_file i g (with_file i f s) ≡ with_file i g s
file_twice s i f g = ap (λ files. record s { whole = files }) (set-set s.whole i f g)

-- ---- one file more

-- it counts where it passes
pub counted_more :
    (p : WholeFile → Bool) (b : Bool) (s : CustomerSpool) (i n m : ℕ) → i < length s.whole → p (file_at i s) ≡ b
    → n ≡ count_up_to p i s
    → m ≡ n + cond b 1 0 → m ≡ count_up_to p (i + 1) s
counted_more p b s i n m inside passes so_far more =
    more ∙ ap₂ (λ k t. k + cond t 1 0) so_far (sym passes) ∙ sym (length-filter_more p s.whole i no_file inside)

pub changed_not_yet : (g : WholeFile → WholeFile) (i : ℕ) (s : CustomerSpool) → i < length s.whole
    → file_at i (changed_up_to g i s) ≡
    file_at i s
changed_not_yet g i s inside = not_yet g i s.whole no_file inside

pub changed_one_more : (g : WholeFile → WholeFile) (i : ℕ) (s : CustomerSpool) → i < length s.whole
    → with_file i (g (file_at i (changed_up_to g i s))) (changed_up_to g i s) ≡ changed_up_to g (i + 1) s
changed_one_more g i s inside =
    ap (λ f. with_file i (g f) (changed_up_to g i s)) (changed_not_yet g i s inside)
    ∙ ap (λ files. record s { whole = files }) (sym (changed_more g i s.whole no_file inside))
    ∙ ap (λ n. changed_up_to g n s) (sym (add-one i))

-- the files that are left, up to the next
pub left_more : (p : WholeFile → Bool) (i : ℕ) (s : CustomerSpool) → i < length s.whole
    → left_up_to p (i + 1) s ≡ left_up_to p i s ++ cond (not (p (file_at i s))) (file_at i s ∷ []) []
left_more p i s inside = filter_more (λ f. not (p f)) s.whole i no_file inside

pub removed_not_yet : (p : WholeFile → Bool) (i : ℕ) (s : CustomerSpool) → i < length s.whole
    → file_at (length (left_up_to p i s)) (removed_up_to p i s) ≡ file_at i s
removed_not_yet p i s inside =
    ap (λ rest. get_or (left_up_to p i s ++ rest) (length (left_up_to p i s)) no_file)
    (drop_more s.whole i no_file inside)
    ∙ get_or_at (left_up_to p i s) (file_at i s) (drop (i + 1) s.whole) no_file (length (left_up_to p i s)) refl

remove_at : (xs : List WholeFile) (y : WholeFile) (ys : List WholeFile) → remove (xs ++ y ∷ ys) (length xs) ≡ xs ++ ys
remove_at [] y ys = refl
remove_at (x ∷ xs) y ys = ap (λ rest. x ∷ rest) (remove_at xs y ys)

pub removed_one_more : (p : WholeFile → Bool) (i : ℕ) (s : CustomerSpool) → i < length s.whole
    → without_where (p (file_at i s)) (length (left_up_to p i s)) (removed_up_to p i s) ≡ removed_up_to p (i + 1) s
removed_one_more p i s inside =
    by_test (p (file_at i s)) ∙ ap (λ files. record s { whole = files ++ drop (i + 1) s.whole })
    (sym (left_more p i s inside))
  where
    by_test : (b : Bool) → without_where b (length (left_up_to p i s)) (removed_up_to p i s)
        ≡ record s { whole = (left_up_to p i s ++ cond (not b) (file_at i s ∷ []) []) ++ drop (i + 1) s.whole }
    by_test true =
        ap (λ files. record s { whole = files }) (
        ap (λ rest. remove (left_up_to p i s ++ rest) (length (left_up_to p i s))) (drop_more s.whole i no_file inside)
        ∙ remove_at (left_up_to p i s) (file_at i s) (drop (i + 1) s.whole)
        ∙ ap (λ files. files ++ drop (i + 1) s.whole) (sym (append-nil (left_up_to p i s))))
    by_test false =
        ap (λ files. record s { whole = files }) (
        ap (λ rest. left_up_to p i s ++ rest) (drop_more s.whole i no_file inside)
        ∙ sym (append_assoc (left_up_to p i s) (file_at i s ∷ []) (drop (i + 1) s.whole)))

-- the index moves on where the file is left
pub index_more :
    (p : WholeFile → Bool) (b : Bool) (s : CustomerSpool) (i n m : ℕ) → i < length s.whole → p (file_at i s) ≡ b
    → n ≡ length (left_up_to p i s) → m ≡ n + cond (not b) 1 0 → m ≡ length (left_up_to p (i + 1) s)
index_more p b s i n m inside passes so_far more =
    more ∙ ap₂ (λ k t. k + cond (not t) 1 0) so_far (sym passes)
    ∙ sym (length-filter_more (λ f. not (p f)) s.whole i no_file inside)

pub numbers_more : (p : WholeFile → Bool) (i : ℕ) (s : CustomerSpool) → i < length s.whole
    → map (λ f. f.number) (filter p (take (i + 1) s.whole))
    ≡ map (λ f. f.number) (filter p (take i s.whole)) ++ numbers_where (p (file_at i s)) (file_at i s)
numbers_more p i s inside =
    ap (map (λ f. f.number)) (filter_more p s.whole i no_file inside)
    ∙ map-append (λ f. f.number) (filter p (take i s.whole)) (cond (p (file_at i s)) (file_at i s ∷ []) [])
    ∙ ap (λ numbers. map (λ f. f.number) (filter p (take i s.whole)) ++ numbers) (by_test (p (file_at i s)))
  where
    by_test : (b : Bool) → map (λ f. f.number) (cond b (file_at i s ∷ []) []) ≡ numbers_where b (file_at i s)
    by_test true = refl
    by_test false = refl

pub fold_more : {A B : Type 0} (f : B → A → B) (x : B) (xs ys : List A) → fold f x (xs ++ ys) ≡ fold f (fold f x xs) ys
fold_more f x [] ys = refl
fold_more f x (a ∷ xs) ys = fold_more f (f x a) xs ys

-- all were looked at
pub all_looked_at : {X : Type 0} (xs : List X) (n : ℕ) → length xs ≤ n → take n xs ≡ xs
all_looked_at xs n h = take_all n xs h

-- ---- what a file is to a change

pub as_other : (passes sending : Bool) → file_class_by passes sending ≡ Other → ((passes && not sending) ≡ false)
    × ((passes && sending)
    ≡ false)
as_other false sending e = (refl, refl)
as_other true true e = absurd (cc e)
as_other true false e = absurd (cc e)

pub as_busy : (passes sending : Bool) → file_class_by passes sending ≡ Busy → ((passes && not sending) ≡ false)
    × ((passes && sending) ≡ true)
as_busy false sending e = absurd (cc e)
as_busy true true e = (refl, refl)
as_busy true false e = absurd (cc e)

pub as_idle : (passes sending : Bool) → file_class_by passes sending ≡ Idle → ((passes && not sending) ≡ true)
    × ((passes && sending) ≡ false)
as_idle false sending e = absurd (cc e)
as_idle true true e = absurd (cc e)
as_idle true false e = (refl, refl)

-- a file that isn't changed
pub unchanged : (p : WholeFile → Bool) (g : WholeFile → WholeFile) (f : WholeFile) → may_change p f ≡ false
    → f ≡ changed_file p g f
unchanged p g f e = sym (ap (λ b. cond b (g f) f) e)

-- ---- a line of LIST more

pub one_listed : (who : User) (i : ℕ) (s : CustomerSpool) (replies more : List (List ℕ)) → i < length s.whole
    → replies ≡ first_replies (map file_line (filter (is_owned who) (take i s.whole)))
    → more ≡ cond (is_owned who (file_at i s)) (first_replies (replies ++ file_line (file_at i s) ∷ [])) replies
    → more ≡ first_replies (map file_line (filter (is_owned who) (take (i + 1) s.whole)))
one_listed who i s replies more inside so_far is =
    is
    ∙ by_test (is_owned who (file_at i s))
    ∙ ap (λ files. first_replies (map file_line files)) (sym (filter_more (is_owned who) s.whole i no_file inside))
  where
    files : List WholeFile
    files = filter (is_owned who) (take i s.whole)

    by_test : (b : Bool) → cond b (first_replies (replies ++ file_line (file_at i s) ∷ [])) replies
        ≡ first_replies (map file_line (files ++ cond b (file_at i s ∷ []) []))
    by_test true =
        ap (λ rs. first_replies (rs ++ file_line (file_at i s) ∷ [])) so_far
        ∙ kept_more 64 (map file_line files) (file_line (file_at i s) ∷ [])
        ∙ ap first_replies (sym (map-append file_line files (file_at i s ∷ [])))
    by_test false = so_far ∙ ap (λ fs. first_replies (map file_line fs)) (sym (append-nil files))
