-- A file that passes the record layer.
use Rattle.std.specs.Prelude.{◌≡◌, None}
use Rattle.format.specs.Checks.{contents_of, record_layer}
use Rattle.format.specs.Layout.{Bytes}
use Rattle.format.specs.Refusals.{first_failing}
use Rattle.format.specs.declared.records.Contents.{Contents}

-- a file that passes the record layer, and how much it records
pub record Recorded (file : Bytes) (contents : Contents) : Type 0 where
  pub counted : contents ≡ contents_of file
  pub passes : first_failing (record_layer file) ≡ None
