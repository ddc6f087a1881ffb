-- How the program ends, by how its parts end.
use Rattle.std.proofs.Common.{◌≡◌, ◌∙◌, ℕ, List, Option, ap, inl, inr, sym}
use Rattle.clap.specs.Words.{Text}
use Rattle.kfifo_cli.specs.Outcomes.{IsMisuse}
use Rattle.kfifo_cli_texts.specs.declared.fault.Fault.{Fault}
use Rattle.kfifo_cli_texts.specs.declared.printing.Printer.{Printer}
use Rattle.kfifo_cli_texts.specs.Faults.{fault_line}
use Rattle.kfifo_cli_texts.specs.Printing.{Nothing, OnPrinter, OnWriter, Part, Stays, Tells, Whole, Written}
use Rattle.kfifo_cli_commands.specs.Endings.{Ends}

-- a run that ends so, ends so by weaker facts of what may be printed, told, and is at fault
pub ends_as : (answers answers' : List ℕ → ℕ → Type 0) (causes causes' : Fault → Type 0) (misuse misuse' : Type 0)
    (output faults : Written → Type 0) (status : ℕ)
    → ((text : List ℕ) (s : ℕ) → answers text s → answers' text s) → ((fault : Fault) → causes fault → causes' fault)
    → (misuse → misuse')
    → Ends answers causes misuse output faults status → Ends answers' causes' misuse' output faults status
ends_as answers answers' causes causes' misuse misuse' output faults status answer cause misused e = record {
  known = e.known;
  printed = λ h. let p = e.printed h in (p.0, (p.1.0, answer p.1.0 status p.1.1, p.1.2));
  failed = λ h. elim (e.failed h) [
    | inl p ↦ inl (p.0, (p.1.0, p.1.1, answer p.1.0 p.1.1 p.1.2, p.1.3))
    | inr q ↦ elim q [
      | inl p ↦ inr (inl (p.0, (p.1.0, cause p.1.0 p.1.1, p.1.2)))
      | inr p ↦ inr (inr (p.0, (p.1.0, answer p.1.0 status p.1.1, p.1.2)))
    ]
  ];
  misused = λ h. let p = e.misused h in (p.0, misused p.1);
}

-- what was told on one writer was told on another that holds the same
pub tells_on : (faults faults' : Written → Type 0) → ((w : Written) → faults w → faults' w) → (text : List ℕ)
    → Tells faults text
    → Tells faults' text
tells_on faults faults' on text (inl whole) = inl (on (Whole text) whole)
tells_on faults faults' on text (inr part) = inr (on (Part text) part)

-- a run that ends so on two writers, ends so on any that hold the same
pub ends_on : (answers : List ℕ → ℕ → Type 0) (causes : Fault → Type 0) (misuse misuse' : Type 0)
    (output output' faults faults' : Written → Type 0) (status : ℕ)
    → ((w : Written) → output w → output' w) → ((w : Written) → faults w → faults' w) → (misuse → misuse')
    → Ends answers causes misuse output faults status → Ends answers causes misuse' output' faults' status
ends_on answers causes misuse misuse' output output' faults faults' status out told misused e = record {
  known = e.known;
  printed = λ h. let p = e.printed h in (told Nothing p.0, (p.1.0, p.1.1, out (Whole p.1.0) p.1.2));
  failed = λ h. elim (e.failed h) [
    | inl p ↦ inl (told Nothing p.0, (p.1.0, p.1.1, p.1.2, out (Part p.1.0) p.1.3))
    | inr q ↦ elim q [
      | inl p ↦ inr (inl (out Nothing p.0, (p.1.0, p.1.1, tells_on faults faults' told (fault_line p.1.0) p.1.2)))
      | inr p ↦ inr (inr (told Nothing p.0, (p.1.0, p.1.1, out (Whole p.1.0) p.1.2)))
    ]
  ];
  misused = λ h. let p = e.misused h in (out Nothing p.0, misused p.1);
}

-- what was written on a printer was written on its writer, which it had all the time
pub on_writer : {W : Type 0} (contents : W → Option (List ℕ)) (old new : Printer W) (before after : W)
    → old.writer.now ≡ before
    → (Stays old new → new.writer.now ≡ after)
    → (w : Written) → OnPrinter contents old new w → OnWriter contents before after w
on_writer {W = W} contents old new before after held kept (Whole text) p = let same : new.writer.now ≡ after =
    kept p.2 in
    rw (← held, ← same) p.0
on_writer {W = W} contents old new before after held kept (Part text) p = let same : new.writer.now ≡ after =
    kept p.2 in
    rw (← held, ← same) p.0
on_writer {W = W} contents old new before after held kept Nothing p =
    sym (kept (ap (λ (x : Printer W). x.writer.ghost_name) p)) ∙ (ap (λ (x : Printer W). x.writer.now) p ∙ held)

-- what was told of a misuse on one writer was told on another that holds the same
pub misuse_on : (words : List Text) (faults faults' : Written → Type 0) → ((w : Written) → faults w → faults' w)
    → IsMisuse words faults
    → IsMisuse words faults'
misuse_on words faults faults' on (inl p) = inl (p.0, (p.1.0, tells_on faults faults' on p.1.0 p.1.1))
misuse_on words faults faults' on (inr p) = inr (p.0, p.1, on Nothing p.2)
