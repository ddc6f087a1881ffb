-- What the command `replay` comes to.
use Rattle.std.proofs.Common.{◌≡◌, ◌⊎◌, ℕ, ◌+◌, Bool, true, false, List, Option, inl, inr, refl, subst, sym}
use Rattle.kfifo_cli_commands.proofs.Types.{Begin, Fault, Group, Shape}
use Rattle.kfifo_replay.specs.declared.fault.ReplayFault.{ReplayFault}
use Rattle.kfifo_cli_texts.specs.declared.fault.Fault.TheVariants.{Memory, Picks, Word}
use Rattle.kfifo_cli_requests.specs.declared.requests.ReplayOptions.{ReplayOptions}
use Rattle.kfifo_cli_texts.specs.Picks.{GivesGroups, GivesNoGroups, picks_of}
use Rattle.kfifo_cli_commands.specs.Replays.{Gives, IsLongTrace, IsPlainText, IsRefusal, IsReplayFault, IsReplayRefusal}
use Rattle.kfifo_cli_commands.specs.Replays.{IsReplayText, IsTraceFault, IsTracedText, IsUnplayed, traces}
use Rattle.kfifo_cli_requests.specs.Sizes.{IsShapeOf}
use Rattle.kfifo_cli_texts.specs.Scripts.{IsFirstUnreadScript, WriteScripts}

module _ (options : ReplayOptions) (shape : Shape) (shaped : IsShapeOf options.sizes shape) (k : ℕ) (same : k ≡ shape.k)
  where
    -- the fault of the scripts is one of the command
    pub script_refused : (fault : Fault) → (fault ≡ Memory)
        ⊎ ((place : ℕ) × (fault ≡ Word (place + 1)) × IsFirstUnreadScript k options.turns options.scripts.now place)
        → IsReplayRefusal options fault
    script_refused fault (inl is) = subst (λ f. IsReplayRefusal options f) (sym is) tt
    script_refused fault (inr w) = subst (λ f. IsReplayRefusal options f) (sym w.1) record {
      shape = shape;
      shape_given = shaped;
      place = w.0;
      number_is = refl;
      unread = subst (λ n. IsFirstUnreadScript n options.turns options.scripts.now w.0) same w.2;
    }

    module _ (scripts : List (List Begin)) (written : WriteScripts k options.turns options.scripts.now scripts) where
      here : WriteScripts shape.k options.turns options.scripts.now scripts
      here = subst (λ n. WriteScripts n options.turns options.scripts.now scripts) same written

      -- that of the picks is one
      pub picks_refused : (fault : Fault) → (fault ≡ Memory) ⊎ ((fault ≡ Picks) × GivesNoGroups options.picks.now)
          → IsReplayRefusal options fault
      picks_refused fault (inl is) = subst (λ f. IsReplayRefusal options f) (sym is) tt
      picks_refused fault (inr unread) = subst (λ f. IsReplayRefusal options f) (sym unread.0)
          record { shape = shape; shape_given = shaped; scripts = scripts; scripts_given = here; unread = unread.1 }

      module _ (groups : List Group) (given : GivesGroups options.picks.now groups) where
        -- what the options give
        pub gives : Gives options shape scripts groups
        gives = record { shape_given = shaped; scripts_given = here; groups_given = given }

        -- what the replay refuses is one
        replay_refused : (fault : ReplayFault) → IsRefusal options.stopped shape scripts (picks_of groups) fault
            → IsReplayFault options fault
        replay_refused fault refused = record {
          shape = shape;
          scripts = scripts;
          groups = groups;
          given = gives;
          refused = refused;
        }

        -- too long a trace is one
        trace_refused : IsLongTrace options shape scripts (picks_of groups) → IsTraceFault options
        trace_refused long = record { shape = shape; scripts = scripts; groups = groups; given = gives; long = long }

        -- why there is no text of the picks is one
        pub played_refused : (fault : Fault) → IsUnplayed options shape scripts (picks_of groups) fault
            → IsReplayRefusal options fault
        played_refused fault (inl is) = subst (λ f. IsReplayRefusal options f) (sym is) tt
        played_refused fault (inr (inl u)) = subst (λ f. IsReplayRefusal options f) (sym u.1) (replay_refused u.0 u.2)
        played_refused fault (inr (inr u)) = subst (λ f. IsReplayRefusal options f) (sym u.0) (trace_refused u.1)

module _ (points : Bool) (stopped : Option ℕ) (shape : Shape) (scripts : List (List Begin)) (picks text : List ℕ) where
  -- a text with no lines of events is what is printed where none are to be printed
  pub plain_text : (record_asked trace : Bool) → traces record_asked trace ≡ false
      → IsPlainText record_asked points stopped shape scripts picks text
      → IsReplayText record_asked trace points stopped shape scripts picks text
  plain_text true trace none h = h
  plain_text false false none h = h
  plain_text false true none h = absurd (cc)

  -- one with the lines of events is what is printed where they are to be
  pub traced_text : (record_asked trace : Bool) → traces record_asked trace ≡ true
      → IsTracedText points stopped shape scripts picks text
      → IsReplayText record_asked trace points stopped shape scripts picks text
  traced_text false true asked h = h
  traced_text false false asked h = absurd (cc)
  traced_text true true asked h = absurd (cc)
  traced_text true false asked h = absurd (cc)
