-- What there is to be told of at a moment: the hub's value, its tables, what the service knows, and when it saw files
-- come.
use Rattle.std.specs.Prelude.{List}
use Rattle.njh_table.specs.TableFile.{TableFile}
use Rattle.njh_hub.specs.WholeHub.{Part}
use Rattle.njh_arrivals.specs.Arrivals.{Seen}
use Rattle.njh_answer.specs.declared.views.LineView.{LineView}
use Rattle.njh_answer.specs.declared.views.ServiceView.{ServiceView}

pub record Scene : Type 0 where
  pub parts : List Part
  pub tables : TableFile
  pub service : ServiceView
  pub lines : List LineView
  pub arrivals : Seen
