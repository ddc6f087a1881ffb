use Rattle.std.proofs.Common.{◌≡◌, ◌∙◌, ℕ, List, Option, Some, None, Bor, ap, refl, rules, option_map, unwrap_or, codes}
use Rattle.kfifo_cli_arguments.proofs.Numbers.{given}
use Rattle.kfifo_cli_arguments.proofs.commands.replay.options_of.Goals as goal

-- the text of a reference, or of a default
text_or : (o : Option (Bor (List ℕ))) (d : Bor (List ℕ))
    → (unwrap_or o d).now ≡ unwrap_or (option_map (λ t. t.now) o) d.now
text_or None d = refl
text_or (Some t) d = refl

pub returns : goal.returns
returns c = record {
  sizes = c.sizes_of.ensures;
  turns = c.turns_of.ensures.given;
  picks = ap (λ (t : Bor (List ℕ)). t.now) c.unwrap_or-picks.ensures
      ∙ (text_or c.get_str-given.result _ ∙ ap (λ (t : Option (List ℕ)). unwrap_or t (codes "none"))
      c.get_str-given.ensures);
  stopped = given 32 _ c.get_one.result c.get_one.ensures.none c.get_one.ensures.value;
  points = (c.get_flag.ensures.none, c.get_flag.ensures.value, c.get_flag.ensures.other);
  traced = (c.get_flag-2.ensures.none, c.get_flag-2.ensures.value, c.get_flag-2.ensures.other);
  recorded = (c.get_flag-3.ensures.none, c.get_flag-3.ensures.value, c.get_flag-3.ensures.other);
  scripts = search rules;
}
