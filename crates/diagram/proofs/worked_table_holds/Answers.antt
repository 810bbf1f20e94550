use Rattle.diagram.proofs.WorkedTable.{worked_table}
use Rattle.diagram.proofs.worked_table_holds.Goals as goal

pub returns : goal.returns
returns c = worked_table
