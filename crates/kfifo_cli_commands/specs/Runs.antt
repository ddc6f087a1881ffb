-- What the command `run` comes to.
use Rattle.std.specs.Prelude.{◌≡◌, ℕ, ◌+◌, List}
use Rattle.kfifo_words.specs.declared.shape.Shape.{Shape}
use Rattle.kfifo_machine.specs.declared.event.Begin.{Begin}
use Rattle.kfifo_cli_texts.specs.declared.fault.Fault.{Fault}
use Rattle.kfifo_cli_texts.specs.declared.fault.Fault.TheVariants.{Shape as AtShape, Word, Memory}
use Rattle.kfifo_cli_requests.specs.declared.requests.RunOptions.{RunOptions}
use Rattle.kfifo_cli_requests.specs.Sizes.{IsShapeFault, IsShapeOf}
use Rattle.kfifo_cli_commands.specs.Reports.{IsReport}
use Rattle.kfifo_cli_texts.specs.Words.{IsFirstUnread, WritesCalls}

-- the answer: the report of the calls that the words write
pub record IsRunAnswer (options : RunOptions) (text : List ℕ) : Type 0 where
  pub shape : Shape
  pub shape_given : IsShapeOf options.sizes shape
  pub calls : List Begin
  pub written : WritesCalls shape.k options.turns options.words.now calls
  pub report : IsReport shape calls text

-- the sizes make a shape, and the word with this number is the first that writes no call
pub record IsWordFault (options : RunOptions) (number : ℕ) : Type 0 where
  pub shape : Shape
  pub shape_given : IsShapeOf options.sizes shape
  pub place : ℕ
  pub number_is : number ≡ place + 1
  pub unread : IsFirstUnread shape.k options.turns options.words.now place

-- why there is no answer
abbrev pub IsRunRefusal : RunOptions → Fault → Type 0
IsRunRefusal options (AtShape fault) = IsShapeFault options.sizes fault
IsRunRefusal options (Word number) = IsWordFault options number
IsRunRefusal options Memory = Unit {0}
IsRunRefusal options _ = ⊥
