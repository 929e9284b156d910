-- What is asked for is there.
use Rattle.std.specs.Prelude.{ℕ, ◌<◌, length, ⊤, Result, Ok, Err}
use Rattle.njh_table.specs.TableFile.{TableFile, HasLine}
use Rattle.njh_request.specs.declared.resource.Resource.{Resource}
use Rattle.njh_request.specs.declared.resource.Resource.TheVariants.{Status, Customers, Lines, Files, Orders}
use Rattle.njh_request.specs.declared.resource.Resource.TheVariants.{Messages, Outcome, Line, Stop, Reload, Diff}
use Rattle.njh_request.specs.declared.refusal.RequestRefusal.{RequestRefusal}
use Rattle.njh_request.specs.declared.order.Order.{Order}
use Rattle.njh_request.specs.declared.order.Order.TheVariants as order
use Rattle.njh_request.specs.declared.request.Request.{Request}
use Rattle.njh_request.specs.declared.request.Request.TheVariants as request

abbrev pub HasCustomer : TableFile → ℕ → Type 0
HasCustomer tables c = c < length tables.customers

-- a resource is of a customer, or is a line, of the tables
abbrev pub IsResourceOf : TableFile → Resource → Type 0
IsResourceOf tables Status = ⊤
IsResourceOf tables Customers = ⊤
IsResourceOf tables (Lines c) = HasCustomer tables c
IsResourceOf tables (Files c) = HasCustomer tables c
IsResourceOf tables (Orders c) = HasCustomer tables c
IsResourceOf tables (Messages c) = HasCustomer tables c
IsResourceOf tables (Outcome n) = ⊤
IsResourceOf tables (Line id) = HasLine tables id
IsResourceOf tables Stop = ⊤
IsResourceOf tables Reload = ⊤
IsResourceOf tables Diff = ⊤

abbrev pub IsNamedOf : TableFile → Result Resource RequestRefusal → Type 0
IsNamedOf tables (Ok r) = IsResourceOf tables r
IsNamedOf tables (Err refusal) = ⊤

-- so is what is ordered
abbrev pub IsOrderOf : TableFile → Order → Type 0
IsOrderOf tables (order.Command c owner text) = HasCustomer tables c
IsOrderOf tables (order.Message c whom text) = HasCustomer tables c
IsOrderOf tables (order.Line id wish) = HasLine tables id
IsOrderOf tables (order.Stop moment) = ⊤
IsOrderOf tables order.Reload = ⊤
IsOrderOf tables (order.Diff path) = ⊤

abbrev pub IsOrderedOf : TableFile → Result Order RequestRefusal → Type 0
IsOrderedOf tables (Ok what) = IsOrderOf tables what
IsOrderedOf tables (Err refusal) = ⊤

-- and what is asked for
abbrev pub IsRequestOf : TableFile → Request → Type 0
IsRequestOf tables request.Status = ⊤
IsRequestOf tables (request.Customers from) = ⊤
IsRequestOf tables (request.Lines c from) = HasCustomer tables c
IsRequestOf tables (request.Files c from) = HasCustomer tables c
IsRequestOf tables (request.Outcome key) = ⊤
IsRequestOf tables (request.Order terms what) = IsOrderOf tables what

abbrev pub IsReadOf : TableFile → Result Request RequestRefusal → Type 0
IsReadOf tables (Ok r) = IsRequestOf tables r
IsReadOf tables (Err refusal) = ⊤
