-- The printed elements of a row.
use Rattle.std.specs.Prelude.{ℕ, ◌+◌, List, [], ◌++◌, Some, None}
use Rattle.format.specs.Elements.{Row, empty, primitive, constructed}
use Rattle.text.specs.Texts.{element_text}

-- the elements of a row, one a line, and those within each below it and one level further in
unfoldable pub row_text : (level : ℕ) → Row → List ℕ
row_text level empty = []
row_text level (primitive tag contents behind) = element_text level tag (Some contents) ++ row_text level behind
row_text level (constructed tag contents behind) = element_text level tag None ++ (row_text (level + 1) contents ++ row_text level behind)
