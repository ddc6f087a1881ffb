-- The passes that have left a generation.
use Rattle.std.specs.Prelude.{◌≡◌, ℕ, List, ◌∷◌, length, map}
use Rattle.std.specs.List.{AllByRecursion}
use Rattle.logbook.specs.Pages.{Book}
use Rattle.kfifo_machine.specs.Runs.{Begins}
use Rattle.kfifo_live.specs.Groups.{GroupView}
use Rattle.kfifo_live.specs.Pass.{IsPassOf, WasSealedEmpty}
use Rattle.kfifo_live.specs.Payloads.{EndsIn}
use Rattle.kfifo_renewing.specs.History.{IsGone, left_of, sight_of}
use Rattle.kfifo_renewing.specs.Renewing.{Numbered}
use Rattle.kfifo_renewing.specs.declared.change.Change.{Change}
use Rattle.kfifo_renewing.specs.declared.change.Sight.{Sight}

-- What holds of the group of passes that have left a generation, and of what was then seen of the history: the
-- generation has gone, and as many have left it, by the history, as are in the group. The schedule of the group has all
-- that they did. After a beginning of it the generation was sealed empty
pub record HaveDeparted {T : Type 0} (g : Numbered) (book : Book) (log : List Change) (count : ℕ) (v : GroupView T)
    : Type 0 where
  pub of : IsPassOf g.queue v.first.pass
  pub same_book : book ≡ g.book
  pub gone : IsGone log g.number
  pub counted : length (left_of g.number log) ≡ count
  pub first : Sight
  pub left : left_of g.number log ≡ first ∷ map (λ p. sight_of p.pass) v.others
  pub thread : first.thread ≡ v.first.pass.thread
  pub begins : Begins first.thread first.seen v.first.pass.seen
  pub ends : AllByRecursion (EndsIn v.first.pass.seen v.first.gifts) v.others
  pub sealed : WasSealedEmpty v.first.pass
