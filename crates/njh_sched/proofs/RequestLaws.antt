-- A stream's request, by the search for a file.
use Rattle.std.proofs.Common.{◌≡◌, ℕ, Bool, true, false, List, [], ◌∷◌, length, map, find, Option, Some, None}
use Rattle.std.proofs.Common.{option_map, slice_set, refl, sym, ap, subst, ◌∙◌}
use Rattle.njh_block.specs.Codes.{kind_of}
use Rattle.njh_block.specs.Writing.{Writing}
use Rattle.njh_record.specs.declared.Kind.{Kind}
use Rattle.njh_spool.specs.CustomerSpool.{CustomerSpool, WholeFile}
use Rattle.njh_spool.specs.Spools.{spool_at}
use Rattle.njh_stream.specs.Sending.{goes_by}
use Rattle.njh_table.specs.TableFile.{NamedCustomer, entry_of}
use Rattle.njh_table.specs.declared.LineId.{LineId}
use Rattle.njh_sched.specs.NextBlock.{Outlet, Source, StreamRequest, may_go, may_ask, oldest, asking, after_source}
use Rattle.njh_sched.specs.NextBlock.{after_sources, after_candidate, filling}
use Rattle.njh_sched.specs.code.Filling.{filling_where}
use Rattle.njh_sched.specs.code.FileCursor.{FileCursor, files_of, first_file, goes_of}
use Rattle.njh_sched.proofs.SourceLists.{nothing_left}
use Rattle.njh_sched.proofs.SourceLists as sources

module _ (goes : WholeFile → Bool) (k : ℕ) (w : Writing) (o : Outlet) (s : CustomerSpool) where
  pub not_asked : may_ask o k ≡ false → after_source goes (StreamRequest k) (filling w o s) ≡ filling w o s
  unfolding after_source
  not_asked e =
      ap (λ b. after_candidate (elim b
      [ false ↦ None | true ↦ option_map (λ f. asking o s k f.number) (oldest goes (kind_of k) s) ])
      (filling w o s)) e

  by_test : (b : Bool) → may_ask o k ≡ b → after_source goes (StreamRequest k) (filling w o s)
      ≡ after_candidate (elim b
      [ false ↦ None | true ↦ option_map (λ f. asking o s k f.number) (oldest goes (kind_of k) s) ])
      (filling w o s)
  unfolding after_source
  by_test b e =
      ap (λ v. after_candidate (elim v
      [ false ↦ None | true ↦ option_map (λ f. asking o s k f.number) (oldest goes (kind_of k) s) ])
      (filling w o s)) e

  -- by the number of the file that is found
  asked_for : (kind : Kind) (n : Option ℕ) → may_ask o k ≡ true → kind ≡ kind_of k
      → n ≡ option_map (λ f. f.number) (oldest goes kind s)
      → after_source goes (StreamRequest k) (filling w o s)
      ≡ after_candidate (option_map (asking o s k) n) (filling w o s)
  asked_for kind n e same is =
      let found : n ≡ option_map (λ f. f.number) (oldest goes (kind_of k) s)
      = subst (λ t. n ≡ option_map (λ f. f.number) (oldest goes t s)) same is in
      by_test true e
      ∙ ap (λ c. after_candidate c (filling w o s))
      (by_number (oldest goes (kind_of k) s) ∙ ap (option_map (asking o s k)) (sym found))
    where
      by_number : (f : Option WholeFile)
          → option_map (λ x. asking o s k x.number) f ≡ option_map (asking o s k) (option_map (λ x. x.number) f)
      by_number None = refl
      by_number (Some f) = refl

  pub nothing_to_ask : (kind : Kind) (n : Option ℕ) → may_ask o k ≡ true → kind ≡ kind_of k
      → n ≡ option_map (λ f. f.number) (oldest goes kind s) → n ≡ None
      → after_source goes (StreamRequest k) (filling w o s) ≡ filling w o s
  nothing_to_ask kind n e same is none =
      asked_for kind n e same is
      ∙ ap (λ (m : Option ℕ). after_candidate (option_map (asking o s k) m) (filling w o s)) none

  pub asks : (kind : Kind) (n : Option ℕ) (m : ℕ) → may_ask o k ≡ true → kind ≡ kind_of k
      → n ≡ option_map (λ f. f.number) (oldest goes kind s) → n ≡ Some m
      → after_source goes (StreamRequest k) (filling w o s) ≡ after_candidate (Some (asking o s k m)) (filling w o s)
  asks kind n m e same is some =
      asked_for kind n e same is
      ∙ ap (λ (x : Option ℕ). after_candidate (option_map (asking o s k) x) (filling w o s)) some

  no_file : (b : Bool) → may_ask o k ≡ b → oldest goes (kind_of k) s ≡ None
      → after_source goes (StreamRequest k) (filling w o s)
      ≡ filling w o s
  no_file true e none = nothing_to_ask (kind_of k) None e refl (sym (ap (option_map (λ f. f.number)) none)) refl
  no_file false e none = not_asked e

-- where no file goes on any stream, none is asked for
module _ (goes : WholeFile → Bool) (w : Writing) (o : Outlet) (s : CustomerSpool) where
  none_asked : (ks : List ℕ) → ((k : ℕ) → oldest goes (kind_of k) s ≡ None)
      → after_sources goes (map StreamRequest ks) (filling w o s)
      ≡ filling w o s
  none_asked [] none = nothing_left goes (filling w o s)
  none_asked (k ∷ ks) none =
      sources.one_more goes (StreamRequest k) (map StreamRequest ks) (filling w o s) (filling w o s)
      (no_file goes k w o s (may_ask o k) refl (none k)) ∙ none_asked ks none

  -- and so where there is none
  pub no_files : (ks : List ℕ) → length s.whole ≡ 0 → after_sources goes (map StreamRequest ks) (filling w o s)
      ≡ filling w o s
  no_files ks e = none_asked ks (λ k. none_of (may_go goes (kind_of k)) s.whole e)
    where
      none_of : (p : WholeFile → Bool) (fs : List WholeFile) → length fs ≡ 0 → find p fs ≡ None
      none_of p [] e = refl
      none_of p (f ∷ fs) e = absurd (cc e)

-- what is said by a search that began at the first file is said of its line
module _ (entry : NamedCustomer) (id : LineId) (y : FileCursor)
    (line : y ≡ record (first_file entry id) { sysin = y.sysin; sysout = y.sysout }) where
  pub source_is :
      (source : Source) (b : Bool) (w v : Writing) (o p : Outlet) (old new : List CustomerSpool)
      → after_source (goes_of y) source (filling w o (files_of y old)) ≡ filling_where b v p (files_of y new)
      → after_source (goes_by (entry_of entry) id.number) source (filling w o (spool_at id.customer old))
      ≡ filling_where b v p (spool_at id.customer new)
  source_is source b w v o p old new e =
      subst (λ (x : FileCursor). after_source (goes_of x) source (filling w o (files_of x old))
      ≡ filling_where b v p (files_of x new)) line e

  pub spool_is : (old new : List CustomerSpool) → new ≡ slice_set old y.id.customer (files_of y new)
      → new ≡ slice_set old id.customer (spool_at id.customer new)
  spool_is old new e = subst (λ (x : FileCursor). new ≡ slice_set old x.id.customer (files_of x new)) line e
