-- What a reader has still to give.
use Rattle.std.specs.Prelude.{List}
use Rattle.format.specs.Layout.{Bytes, records_from}
use Rattle.format.specs.declared.reader.Reader.{Reader}

-- the records from its place on
abbrev pub records_left : Reader → List Bytes
records_left reader = records_from reader.file.now reader.place
