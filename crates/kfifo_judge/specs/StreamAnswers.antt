-- What `check_stream` and `measure_stream` come to.
use Rattle.std.specs.Prelude.{ℕ, ◌≡◌, ◌<◌, ◌≤◌, ◌⊎◌, List, Option, Result, Ok, Err, IfSome, length}
use Rattle.std.specs.Io.KnownBytes.{Appends, Keeps}
use Rattle.kfifo_judge.specs.declared.outcome.Outcome.{Outcome}
use Rattle.kfifo_judge.specs.declared.outcome.Outcome.TheVariants.{Answered, Unordered, Undecided}
use Rattle.kfifo_judge.specs.declared.record.StreamFault.{StreamFault}
use Rattle.kfifo_judge.specs.declared.record.StreamFault.TheVariants.{Input, Memory, Output}
use Rattle.kfifo_judge.specs.declared.streams.TheConstants.{MAX_BYTES}
use Rattle.kfifo_judge.specs.Measure.{IsMeasured}
use Rattle.kfifo_judge.specs.Streams.{AppendsPart, CountsOne}

-- the exit status
abbrev pub status_of : Outcome → ℕ
status_of Answered = 0
status_of Unordered = 3
status_of Undecided = 4

-- A source and a sink around a call: the bytes that the source gave, where they are known, the bytes that the sink held
-- before and after, and how many calls of each had failed before and after.
pub record Streams : Type 0 where
  pub given : Option (List ℕ)
  pub reads : ℕ
  pub reads_after : ℕ
  pub held : Option (List ℕ)
  pub held_after : Option (List ℕ)
  pub writes : ℕ
  pub writes_after : ℕ

-- a source and a sink before and after a call, by what is known of any
abbrev pub streams_around : {S K : Type 0} → (S → Option (List ℕ)) → (S → ℕ) → (K → Option (List ℕ)) → (K → ℕ) → S → S
    → K → K → Streams
streams_around given reads held writes source source_after sink sink_after = record {
  given = given source;
  reads = reads source;
  reads_after = reads source_after;
  held = held sink;
  held_after = held sink_after;
  writes = writes sink;
  writes_after = writes sink_after;
}

-- all that the source gave was read, and is at most 16,777,216 bytes
abbrev pub HasRead : Streams → List ℕ → Type 0
HasRead s bytes = (s.reads_after ≡ s.reads) × IfSome s.given (λ given. (given ≡ bytes) × (length given ≤ MAX_BYTES))

-- a read failed, or over 16,777,216 bytes came
abbrev pub IsUnread : Streams → Type 0
IsUnread s = CountsOne s.reads s.reads_after
    ⊎ ((s.reads_after ≡ s.reads) × IfSome s.given (λ given. MAX_BYTES < length given))

-- nothing was written, and no write failed
abbrev pub IsSilent : Streams → Type 0
IsSilent s = Keeps s.held s.held_after × (s.writes_after ≡ s.writes)

-- What the call comes to, where each answer of bytes that were read, with its outcome, and each fault of them are
-- known: a status with the answer written, the failure of a write that cut the answer off, or a fault with nothing
-- written.
abbrev pub IsStreamAnswer : (List ℕ → List ℕ → Outcome → Type 0) → (List ℕ → StreamFault → Type 0) → Streams
    → Result ℕ StreamFault → Type 0
IsStreamAnswer Answers IsFault s (Ok status) = (bytes : List ℕ) × (text : List ℕ) × (said : Outcome) × HasRead s bytes
    × Answers bytes text said × (status ≡ status_of said) × Appends s.held s.held_after text
    × (s.writes_after ≡ s.writes)
IsStreamAnswer Answers IsFault s (Err Output) = (bytes : List ℕ) × (text : List ℕ) × (said : Outcome) × HasRead s bytes
    × Answers bytes text said × AppendsPart s.held s.held_after text × CountsOne s.writes s.writes_after
IsStreamAnswer Answers IsFault s (Err Input) = IsUnread s × IsSilent s
IsStreamAnswer Answers IsFault s (Err Memory) = (s.reads_after ≡ s.reads) × IsSilent s
IsStreamAnswer Answers IsFault s (Err fault) = (bytes : List ℕ) × HasRead s bytes × IsFault bytes fault × IsSilent s

-- the text of `measure`, which always answers
abbrev pub IsMeasureAnswer : List ℕ → List ℕ → Outcome → Type 0
IsMeasureAnswer bytes text said = IsMeasured bytes text × (said ≡ Answered)
