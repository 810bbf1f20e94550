-- A draft: what was read of a file, before it is known to be lawful.
use Rattle.std.specs.Prelude.{◌≡◌}
use Rattle.format.specs.Checks.{contents_of}
use Rattle.format.specs.Layout.{Bytes}
use Rattle.sheet.specs.FileDiagram.{file_standing}
use Rattle.sheet.specs.Standing.{Standing, standing_in}
use Rattle.sheet.specs.declared.draft.Draft.{Draft}

-- what a draft holds
abbrev pub drafted : Draft → Standing
drafted draft = standing_in draft.steps draft.table

-- a draft of the file
pub record Drafts (file : Bytes) (draft : Draft) : Type 0 where
  pub counts : draft.contents ≡ contents_of file
  pub holds : drafted draft ≡ file_standing file
