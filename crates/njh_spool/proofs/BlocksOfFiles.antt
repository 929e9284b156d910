-- A block that lies in one chain lies in one file.
use Rattle.std.proofs.Common.{◌≡◌, ℕ, ◌*◌, ◌/◌, ◌%◌, ◌<◌, List, length, ap, ◌∙◌, arith}
use Rattle.slab.specs.Slab.{Slab, ContainsKey}
use Rattle.njh_spool.specs.declared.store.spool_block.SpoolBlock.{SpoolBlock}
use Rattle.njh_spool.specs.declared.store.chain_ends.ChainEnds.{ChainEnds}
use Rattle.njh_spool.specs.code.BlocksOfFiles.{LiesInOneFile}
use Rattle.njh_spool.specs.code.ChainedBlocks.{IsChained, times_at}
use Rattle.njh_spool.specs.code.Slots.{place_of}
use Rattle.njh_spool.proofs.ChainLaws.{lies_in_one}

-- a place is that of one customer's one number
place_is : (at : ℕ) → place_of (at / 1024) (at % 1024) ≡ at
place_is at = omega arith

same_file : (c n at : ℕ) → n < 1024 → place_of c n ≡ at → (c ≡ at / 1024) × (n ≡ at % 1024)
same_file c n at small is = (omega (arith, small, is), omega (arith, small, is))

pub lies_in_one_file :
    (blocks : Slab SpoolBlock) (chains : List ChainEnds) (capacity customers : ℕ) → IsChained blocks chains capacity
    → length chains ≡ 1024 * customers → (key : ℕ) → ContainsKey blocks key → LiesInOneFile blocks chains customers key
lies_in_one_file blocks chains capacity customers chained many key there =
    let one = lies_in_one blocks chains capacity chained key there in
    record {
      customer = one.chain / 1024;
      number = one.chain % 1024;
      known = omega (arith, one.within, many);
      small = omega arith;
      once = ap (λ at. times_at blocks chains at key) (place_is one.chain) ∙ one.once;
      others = λ c n known small other.
          one.others (place_of c n) (omega (arith, known, small, many))
          (λ same. other (same_file c n one.chain small same));
    }
