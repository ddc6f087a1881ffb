-- What the command `record` comes to.
use Rattle.std.proofs.Common.{◌≡◌, ◌⊎◌, ◌<◌, ◌≤◌, ℕ, zero, suc, ◌+◌, List, [], ◌∷◌, length, All, inl, inr, refl, subst}
use Rattle.std.proofs.Common.{sym, arith}
use Rattle.kfifo_cli_commands.proofs.Types.{Begin, Fault, Shape}
use Rattle.kfifo_machine.specs.declared.event.Begin.TheVariants.{Enqueue, Dequeue, Tick, Seal}
use Rattle.kfifo_live.specs.declared.fault.OpenFault.{OpenFault}
use Rattle.kfifo_live.specs.declared.fault.OpenFault.TheVariants as opens
use Rattle.kfifo_record.specs.Repeats.{IsFirstOver, all_repeated, last_shift}
use Rattle.kfifo_record.specs.Scripts.{AreScripts, IsCall, longest}
use Rattle.kfifo_cli_texts.specs.declared.fault.Fault.TheVariants.{Memory, Open, Word}
use Rattle.kfifo_cli_requests.specs.declared.requests.RecordOptions.{RecordOptions}
use Rattle.kfifo_cli_texts.specs.Orders.{comma_parts}
use Rattle.kfifo_cli_commands.specs.RealRuns.{GivesScripts, IsQueueFault, IsRealRunRefusal}
use Rattle.kfifo_cli_requests.specs.Sizes.{IsShapeOf}
use Rattle.kfifo_cli_texts.specs.Scripts.{IsFirstUnreadScript, WriteScripts, WritesScript, texts_of}
use Rattle.kfifo_cli_texts.specs.Words.{EachWrites, WritesCall}

-- why the queue is refused, by its fault
pub queue_fault : (scripts : List (List Begin)) (fault : OpenFault)
    → (fault ≡ opens.ThreadsOutOfRange → (length scripts ≡ 0) ⊎ (64 < length scripts))
    → (fault ≡ opens.CallsOutOfRange → (0 < length scripts) × (length scripts ≤ 64) × (1024 < longest scripts))
    → (fault ≡ opens.TokensOutOfRange → ⊥) → IsQueueFault scripts fault
queue_fault scripts opens.ThreadsOutOfRange threads calls tokens = threads refl
queue_fault scripts opens.Memory threads calls tokens = tt
queue_fault scripts opens.TokensOutOfRange threads calls tokens = tokens refl
queue_fault scripts opens.CallsOutOfRange threads calls tokens = calls refl

-- what a word writes is in range
in_range : (shape : Shape) (turns : ℕ) (word : List ℕ) (call : Begin) → 1 ≤ turns → WritesCall shape.k turns word call
    → IsCall shape call
in_range shape turns word (Enqueue item start rounds) some w =
    (w.0.some_item, w.0.item_fits, w.0.start_fits, omega (arith, some, w.1))
in_range shape turns word (Dequeue start rounds) some w = (w.0.start_fits, omega (arith, some, w.1))
in_range shape turns word Tick some w = absurd w
in_range shape turns word Seal some w = absurd w

each_call : (shape : Shape) (turns : ℕ) (words : List (List ℕ)) (calls : List Begin) → 1 ≤ turns
    → EachWrites (WritesCall shape.k turns) words calls → All (IsCall shape) calls
each_call shape turns words [] some all i d less = absurd (omega (arith, less))
each_call shape turns [] (call ∷ calls) some all i d less = absurd all
each_call shape turns (word ∷ words) (call ∷ calls) some all zero d less = in_range shape turns word call some all.0
each_call shape turns (word ∷ words) (call ∷ calls) some all (suc i) d less =
    each_call shape turns words calls some all.1 i d (omega (arith, less))

each_script : (shape : Shape) (turns : ℕ) (words : List (List ℕ)) (scripts : List (List Begin)) → 1 ≤ turns
    → EachWrites (WritesScript shape.k turns) words scripts → AreScripts shape scripts
each_script shape turns words [] some all i d less = absurd (omega (arith, less))
each_script shape turns [] (script ∷ scripts) some all i d less = absurd all
each_script shape turns (word ∷ words) (script ∷ scripts) some all zero d less =
    each_call shape turns (comma_parts word) script some all.0
each_script shape turns (word ∷ words) (script ∷ scripts) some all (suc i) d less =
    each_script shape turns words scripts some all.1 i d (omega (arith, less))

module _ (options : RecordOptions) (shape : Shape) (shaped : IsShapeOf options.sizes shape) (k : ℕ) (same : k ≡ shape.k)
  where
    -- the fault of a word that writes no script is one of the command
    pub unread_refused : (fault : Fault) → (fault ≡ Memory)
        ⊎ ((place : ℕ) × (fault ≡ Word (place + 1)) × IsFirstUnreadScript k options.turns options.scripts.now place)
        → IsRealRunRefusal options fault
    unread_refused fault (inl is) = subst (λ f. IsRealRunRefusal options f) (sym is) tt
    unread_refused fault (inr w) = subst (λ f. IsRealRunRefusal options f) (sym w.1) (inl record {
      shape = shape;
      shape_given = shaped;
      place = w.0;
      number_is = refl;
      unread = subst (λ n. IsFirstUnreadScript n options.turns options.scripts.now w.0) same w.2;
    })

    module _ (scripts : List (List Begin)) (written : WriteScripts k options.turns options.scripts.now scripts) where
      -- what the options give
      pub gives : GivesScripts options shape scripts
      gives = record {
        shape_given = shaped;
        scripts_given =
            subst (λ n. WriteScripts n options.turns options.scripts.now scripts) same written;
      }

      pub are_scripts : 1 ≤ options.turns → AreScripts shape scripts
      are_scripts some = each_script shape options.turns (texts_of options.scripts.now) scripts some gives.scripts_given

      -- the fault of a script that goes over the greatest item is one
      pub over_refused : (fault : Fault) → (fault ≡ Memory)
          ⊎ ((place : ℕ) × (fault ≡ Word (place + 1)) × IsFirstOver (last_shift options.repeat scripts) scripts place)
          → IsRealRunRefusal options fault
      over_refused fault (inl is) = subst (λ f. IsRealRunRefusal options f) (sym is) tt
      over_refused fault (inr w) = subst (λ f. IsRealRunRefusal options f) (sym w.1)
          (inr record { shape = shape; scripts = scripts; given = gives; place = w.0; number_is = refl; over = w.2 })

      -- so is that of the queue
      pub queue_refused : (fault : OpenFault) → IsQueueFault (all_repeated options.repeat scripts) fault
          → IsRealRunRefusal options (Open fault)
      queue_refused fault refused = record { shape = shape; scripts = scripts; given = gives; refused = refused }
