-- A customer that a whole file comes back to.
use Rattle.njh_spool.specs.Restoring.{KeptFile, with_restored}
use Rattle.njh_stream.specs.Holding.{unrouted_held}
use Rattle.njh_customer.specs.Customer.{Customer}
use Rattle.njh_customer.specs.Part.{Part}

-- The file is the last in the order of arrival, Held or Ready; where its node has no route it is Held, as when routes
-- change. Lines, what waits on them and partial files stay.
abbrev pub customer_with_file : KeptFile → Customer → Customer
customer_with_file f c = record c { spool = unrouted_held c.entry (with_restored f c.spool) }

abbrev pub part_with_file : KeptFile → Part → Part
part_with_file f p = record p { customer = customer_with_file f p.customer }
