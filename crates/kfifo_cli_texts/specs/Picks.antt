-- How picks are written on the command line.
use Rattle.std.specs.Prelude.{◌≡◌, ℕ, ◌+◌, ◌^◌, ◌<◌, ◌≤◌, ◌⊎◌, List, [], ◌∷◌, ◌++◌, codes, replicate, sum_by}
use Rattle.std.specs.List.{flat_map}
use Rattle.kfifo_cli_texts.specs.declared.picks.TheConstants.{MAX_PICKS}
use Rattle.kfifo_replay.specs.declared.fault.ReplayFault.{ReplayFault}
use Rattle.kfifo_replay.specs.declared.fault.ReplayFault.TheVariants.{BadPick, Memory, BadScript}
use Rattle.kfifo_cli_texts.specs.declared.picks.Group.{Group}
use Rattle.kfifo_cli_texts.specs.Orders.{comma_parts}
use Rattle.kfifo_cli_texts.specs.Words.{EachWrites, WritesNumber}

-- a number alone picks that thread once; behind x (120) stands how often it is picked
abbrev pub SaysGroup : List ℕ → ℕ → ℕ → Type 0
SaysGroup text thread count = (WritesNumber text thread × (count ≡ 1))
    ⊎ ((name : List ℕ) × (often : List ℕ) × (text ≡ name ++ 120 ∷ often) × WritesNumber name thread
    × WritesNumber often count)

-- a text writes a group of picks: a thread, and how often it is picked in a row
pub record WritesGroup (text : List ℕ) (group : Group) : Type 0 where
  pub says : SaysGroup text group.thread group.count
  pub thread_fits : group.thread < 2 ^ 32
  pub some : 1 ≤ group.count
  pub count_fits : group.count < 2 ^ 32

-- none writes no group, and groups joined by commas write these groups
abbrev pub WritesGroups : List ℕ → List Group → Type 0
WritesGroups text groups = ((text ≡ codes "none") × (groups ≡ [])) ⊎ EachWrites WritesGroup (comma_parts text) groups

-- how many picks the groups are
abbrev pub count_of : List Group → ℕ
count_of groups = sum_by (λ group. group.count) groups

-- the picks of the groups, one by one
abbrev pub picks_of : List Group → List ℕ
picks_of groups = flat_map (λ group. replicate group.count group.thread) groups

-- the fault of picks that stand behind so many: its place counts over all of them
abbrev pub behind : ℕ → ReplayFault → ReplayFault
behind made (BadPick place) = BadPick (made + place)
behind made Memory = Memory
behind made BadScript = BadScript

-- a text gives these groups, of at most 16,777,216 picks
abbrev pub GivesGroups : List ℕ → List Group → Type 0
GivesGroups text groups = WritesGroups text groups × (count_of groups ≤ MAX_PICKS)

-- a text writes no groups, or groups of more picks than that
abbrev pub GivesNoGroups : List ℕ → Type 0
GivesNoGroups text = ((groups : List Group) → WritesGroups text groups → ⊥)
    ⊎ ((groups : List Group) × WritesGroups text groups × (MAX_PICKS < count_of groups))
