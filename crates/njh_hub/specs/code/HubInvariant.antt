-- What ties the table, the files and the lines that a hub keeps to each other.
use Rattle.std.specs.Prelude.{◌≡◌, ℕ, ◌<◌, List, length}
use Rattle.njh_spool.specs.CustomerSpool.{CustomerSpool}
use Rattle.njh_table.specs.TableFile.{TableFile}
use Rattle.njh_customer.specs.Customer.{IsMarked}
use Rattle.njh_customer.specs.code.Coherence.{IsCoherent}
use Rattle.njh_customer.specs.Part.{Lines}
use Rattle.njh_hub.specs.Parts.{part_held}

-- What the hub keeps belongs together: files and lines of as many customers as the table has, each of which is
-- coherent, and the lines that the table marks as up are those that are up.
pub record IsHub (table : TableFile) (files : List CustomerSpool) (lines : List Lines) : Type 0 where
  pub spooled : length files ≡ length table.customers
  pub lined : length lines ≡ length table.customers
  pub coherent : (c : ℕ) → c < length table.customers → IsCoherent (part_held table files lines c).customer
  pub marked : (c : ℕ) → c < length table.customers → IsMarked (part_held table files lines c).customer
