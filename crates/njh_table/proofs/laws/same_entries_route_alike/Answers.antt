use Rattle.njh_table.specs.TableFile.{customer_at}
use Rattle.njh_table.proofs.EntryLaws.{same_entry-route_of, same_entry-equal}
use Rattle.njh_table.proofs.laws.same_entries_route_alike.Goals as goal

pub returns-clause-alike : goal.returns-clause-alike
returns-clause-alike c = λ t u i j. same_entry-route_of (customer_at t i) (customer_at u j)

pub returns-clause-equal : goal.returns-clause-equal
returns-clause-equal c = same_entry-equal
