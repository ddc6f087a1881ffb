-- A shape whose enqueues hold again is that of its sizes.
use Rattle.std.proofs.Common.{◌≡◌, ◌≤◌, ◌<◌, ◌^◌, ℕ, Bool, true}
use Rattle.std.proofs.Math.Bridge.{le_prop}
use Rattle.kfifo_words.specs.declared.shape.Shape.{Shape}
use Rattle.kfifo_renewing.specs.Renewing.{holding_again}

-- whatever shows that the sizes are in their ranges
abbrev IsOfSizes : Shape → ℕ → ℕ → ℕ → ℕ → Bool → Type 0
IsOfSizes s k n last probes holds_again =
    (a : 1 ≤ k) (b : k ≤ 64) (c : 2 ≤ n) (d : n ≤ 1024) (e : 2 ≤ last) (f : last < 2 ^ 40) (g : 1 ≤ probes)
    (h : probes ≤ k)
    → record {
      k = k;
      n = n;
      last = last;
      probes = probes;
      holds_again = holds_again;
      some_slot = a;
      few_slots = b;
      some_segments = c;
      few_segments = d;
      some_versions = e;
      few_versions = f;
      some_probe = g;
      few_probes = h;
    } ≡ holding_again s

own_sizes : (s : Shape) → IsOfSizes s s.k s.n s.last s.probes true
own_sizes s a b c d e f g h = λ i. record {
  k = s.k;
  n = s.n;
  last = s.last;
  probes = s.probes;
  holds_again = true;
  some_slot = le_prop a s.some_slot i;
  few_slots = le_prop b s.few_slots i;
  some_segments = le_prop c s.some_segments i;
  few_segments = le_prop d s.few_segments i;
  some_versions = le_prop e s.some_versions i;
  few_versions = le_prop f s.few_versions i;
  some_probe = le_prop g s.some_probe i;
  few_probes = le_prop h s.few_probes i;
}

pub holds : (s again : Shape) → again.k ≡ s.k → again.n ≡ s.n → again.last ≡ s.last → again.probes ≡ s.probes
    → again.holds_again ≡ true → again ≡ holding_again s
holds s again k n last probes hold =
    let all : IsOfSizes s again.k again.n again.last again.probes again.holds_again =
    rw (k, n, last, probes, hold) (own_sizes s) in
    all again.some_slot again.few_slots again.some_segments again.few_segments again.some_versions again.few_versions
    again.some_probe
    again.few_probes
