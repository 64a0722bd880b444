-- The page (HTML, Living Standard).
use Rattle.std.specs.Prelude.{ℕ, List}
use Rattle.plain.specs.declared.page.TheConstants.{PAGE}

-- its bytes, which nothing here depends on
unfoldable pub page : List ℕ
page = PAGE.now
