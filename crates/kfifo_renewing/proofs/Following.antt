-- A handle that follows others does so step by step, and sees more of the history.
use Rattle.std.proofs.Common.{◌≡◌, ◌≢◌, ◌==◌, ◌<◌, ◌≤◌, ℕ, Bool, true, false, not, MatchBool, List, [], ◌∷◌, ◌++◌, All}
use Rattle.std.proofs.Common.{inl, refl, sym, ap, ◌∙◌, subst, arith, append_assoc}
use Rattle.std.proofs.lemmas.Bool.Decides.{nat_tests}
use Rattle.std.proofs.lemmas.List.{append-nil}
use Rattle.std.proofs.lemmas.List.Elements.{All-append, All-nil, All-weaker}
use mathlib.Core.List.{IsPrefix}
use Rattle.logbook.specs.Pages.{Book}
use Rattle.kfifo_pool.specs.Pooled.{Pooled}
use Rattle.kfifo_live.specs.declared.view.Opening.{Opening}
use Rattle.kfifo_renewing.specs.declared.change.Change.{Change}
use Rattle.kfifo_renewing.specs.declared.change.Change.TheVariants as C
use Rattle.kfifo_renewing.specs.declared.change.Made.{Made}
use Rattle.kfifo_renewing.specs.declared.change.Sight.{Sight}
use Rattle.kfifo_renewing.specs.History.{Finds, HasRisen, IsMade, NewestWas, newest_of, queue_in}
use Rattle.kfifo_renewing.specs.Joining.{HasJoined, IsSamePart, PartView}
use Rattle.kfifo_renewing.specs.Renewing.{Follows, Generations, HeldIn, IsAtNewest, IsBehind, IsLater, IsNew}
use Rattle.kfifo_renewing.specs.Renewing.{IsNumbered, LeavesGone, Numbered, all_of, sight, with_newest, with_older}
use Rattle.kfifo_renewing.specs.Renewing.{with_seen}
use Rattle.kfifo_renewing.proofs.Histories.{made-later, prefix-trans, risen-from}
use Rattle.kfifo_renewing.proofs.Joining.{joined-later, joined-newest}
use Rattle.kfifo_renewing.proofs.Departures.{all-kept, leaves-append, leaves-later, leaves-refl, leaves-split}
use Rattle.kfifo_renewing.proofs.Departures.{leaves-trans, new-later}

-- what a look found between two beginnings was so between a shorter and a longer one
pub was-before : (t : Sight) (n : ℕ) (a b c : List Change) → IsPrefix a b → NewestWas t n b c → NewestWas t n a c
was-before t n a b c p (others, more, is, newest) =
    let same : a ++ (p.0 ++ others) ≡ b ++ others = sym (append_assoc a p.0 others) ∙ ap (λ l. l ++ others) p.1 in
    (p.0 ++ others, more, is ∙ ap (λ l. l ++ C.Look t ∷ more) (sym same), ap newest_of same ∙ newest)

pub was-after : (t : Sight) (n : ℕ) (a b c : List Change) → NewestWas t n a b → IsPrefix b c → NewestWas t n a c
was-after t n a b c (others, more, is, newest) p = (
  others,
  more ++ p.0,
  sym p.1 ∙ ap (λ l. l ++ p.0) is ∙ append_assoc (a ++ others) (C.Look t ∷ more) p.0,
  newest,
)

pub was-prefix : (t : Sight) (n : ℕ) (a b : List Change) → NewestWas t n a b → IsPrefix a b
was-prefix t n a b (others, more, is, newest) =
    (others ++ C.Look t ∷ more, sym (append_assoc a others (C.Look t ∷ more)) ∙ sym is)

-- A look at the word of the handle's newest generation found that there is a later one, or none
pub found-or-newest : (found number : ℕ) (t : Sight) (old new : List Change) (queue : Made)
    → Finds t number found old new
    → IsMade new number queue → (b : Bool) → (found == 0) ≡ b
    → MatchBool (not b) ((n : ℕ) × NewestWas t n old new × (n ≢ number) × IsMade new number queue)
    (NewestWas t number old new × IsMade new number queue)
found-or-newest found number t old new queue finds made true e =
    let none : found ≡ 0 = grind (arith, nat_tests) in
    (subst (λ n. NewestWas t n old new) (finds.same none) finds.was, made)
found-or-newest found number t old new queue finds made false e =
    let other : found ≢ 0 = λ same. grind (arith, nat_tests) in
    (finds.number, finds.was, finds.other (omega (arith, other)), made)

module _ {T : Type 0} where
  pub later-refl : (g : Generations T) → IsLater g g
  later-refl g = record {
    opened = refl;
    thread = refl;
    book = refl;
    seen = ([], append-nil g.seen);
    risen = omega arith;
  }

  pub later-trans : (a b c : Generations T) → IsLater a b → IsLater b c → IsLater a c
  later-trans a b c p q = record {
    opened = q.opened ∙ p.opened;
    thread = q.thread ∙ p.thread;
    book = q.book ∙ p.book;
    seen = prefix-trans a.seen b.seen c.seen p.seen q.seen;
    risen = let first = p.risen in let then = q.risen in omega (arith, first, then);
  }

  pub later-seen : (old new : Generations T) (log : List Change) → new ≡ with_seen old log → IsPrefix old.seen log
      → HasRisen log
      → IsLater old new
  later-seen old new log is p risen = record {
    opened = ap (λ g. g.opened) is;
    thread = ap (λ g. g.thread) is;
    book = ap (λ g. g.book) is;
    seen = subst (IsPrefix old.seen) (sym (ap (λ g. g.seen) is)) p;
    risen = subst (λ l. newest_of old.seen ≤ newest_of l) (sym (ap (λ g. g.seen) is)) (risen-from old.seen log p risen);
  }

  -- a handle that has seen this beginning of the history, and then more
  pub later-by : (old new : Generations T) (log : List Change) → new.opened ≡ old.opened → new.thread ≡ old.thread
      → new.book ≡ old.book
      → log ≡ old.seen → IsPrefix log new.seen → HasRisen new.seen → IsLater old new
  later-by old new log opened thread book same more risen =
      let seen = subst (λ l. IsPrefix l new.seen) same more in
      record {
        opened = opened;
        thread = thread;
        book = book;
        seen = seen;
        risen = risen-from old.seen new.seen seen risen;
      }

  pub later-newest : (old new : Generations T) (h : Pooled T) → new ≡ with_newest old h → IsLater old new
  later-newest old new h is = subst (IsLater old) (sym is)
      (record { opened = refl; thread = refl; book = refl; seen = ([], append-nil old.seen); risen = omega arith })

  pub later-older : (old new : Generations T) (hs : List (HeldIn T)) → new ≡ with_older old hs → IsLater old new
  later-older old new hs is = subst (IsLater old) (sym is)
      (record { opened = refl; thread = refl; book = refl; seen = ([], append-nil old.seen); risen = omega arith })

  -- a handle that has seen more of the history, and left some of its older generations
  pub later-both : (old new : Generations T) (log : List Change) (hs : List (HeldIn T))
      → new ≡ with_older (with_seen old log) hs
      → IsPrefix old.seen log → HasRisen log → IsLater old new
  later-both old new log hs is p risen = subst (IsLater old) (sym is)
      (later-trans old (with_seen old log) (with_older (with_seen old log) hs)
      (later-seen old (with_seen old log) log refl p risen)
      (later-older (with_seen old log) (with_older (with_seen old log) hs) hs refl))

  -- a handle that differs in its older generations alone
  pub same-but-older : {o : Opening} {t : ℕ} {k : Book} {s : List Change} {h : Pooled T} {n : ℕ}
      (older : List (HeldIn T)) (b : Generations T)
      → o ≡ b.opened → t ≡ b.thread → k ≡ b.book → s ≡ b.seen → h ≡ b.newest → n ≡ b.number
      → record {
        opened = o;
        thread = t;
        book = k;
        seen = s;
        older = older;
        newest = h;
        number = n;
      } ≡ with_older b older
  same-but-older older b opened thread book seen newest number = λ i. record {
    opened = opened i;
    thread = thread i;
    book = book i;
    seen = seen i;
    older = older;
    newest = newest i;
    number = number i;
  }

  -- a handle that has seen more of the history, and has these older generations
  pub same-but-both : {o : Opening} {t : ℕ} {k : Book} {h : Pooled T} {n : ℕ} (older : List (HeldIn T))
      (log : List Change)
      (b : Generations T) → o ≡ b.opened → t ≡ b.thread → k ≡ b.book → h ≡ b.newest → n ≡ b.number
      → record {
        opened = o;
        thread = t;
        book = k;
        seen = log;
        older = older;
        newest = h;
        number = n;
      } ≡ with_older (with_seen b log) older
  same-but-both older log b opened thread book newest number = λ i. record {
    opened = opened i;
    thread = thread i;
    book = book i;
    seen = log;
    older = older;
    newest = newest i;
    number = number i;
  }

  -- more of the history was seen
  pub follows-seen : (old new : Generations T) (log : List Change) → new ≡ with_seen old log → IsLater old new
      → Follows old new
  follows-seen old new log is later = record {
    later = later;
    up = let same = ap (λ (g : Generations T). g.number) is in omega (arith, same);
    kept = all_of old;
    joined = [];
    keeps = leaves-refl new.seen (all_of old);
    all = ap (λ (g : Generations T). all_of g) is ∙ sym (append-nil (all_of old));
    all_new = All-nil (IsNew old.thread old.number new.seen);
  }

  -- what holds of a handle holds after a look, and after a call in the newest generation
  pub joins-after : (o : Opening) (shared book then : Book) (old new : List Change) (g : Numbered)
      (h after : PartView T)
      (older : List (PartView T)) (t : Sight) (found : ℕ) → HasJoined o shared book old g h older
      → Finds t g.number found old new → then ≡ book
      → IsSamePart h after → HasJoined o shared then new g after older
  joins-after o shared book then old new g h after older t found j finds same part =
      joined-newest o shared then new g h after older
      (joined-later o shared book then old new g h older j same (was-prefix t finds.number old new finds.was)
      finds.risen) part

  -- a handle that has seen more of the history, and made a call in its newest generation
  pub same-but-seen : {o : Opening} {t : ℕ} {k : Book} {older : List (HeldIn T)} {n : ℕ} (log : List Change)
      (h : Pooled T) (b : Generations T) → o ≡ b.opened → t ≡ b.thread → k ≡ b.book → older ≡ b.older → n ≡ b.number
      → record { opened = o; thread = t; book = k; seen = log; older = older; newest = h; number = n }
      ≡ with_newest (with_seen b log) h
  same-but-seen log h b opened thread book older number = λ i. record {
    opened = opened i;
    thread = thread i;
    book = book i;
    seen = log;
    older = older i;
    newest = h;
    number = number i;
  }

  -- what a look of the handle at the word of its newest generation found
  abbrev pub Looked : ℕ → List Change → Generations T → Type 0
  Looked found log g = Finds (sight g) g.number found g.seen log × IsNumbered g

  pub looked-later : (found : ℕ) (log : List Change) (g : Generations T) → Looked found log g
      → IsLater g (with_seen g log)
  looked-later found log g looked =
      later-seen g (with_seen g log) log refl (was-prefix (sight g) looked.0.number g.seen log looked.0.was)
      looked.0.risen

  pub looked-follows : (found : ℕ) (log : List Change) (g : Generations T) → Looked found log g
      → Follows g (with_seen g log)
  looked-follows found log g looked = follows-seen g (with_seen g log) log refl (looked-later found log g looked)

  -- it found that there is no later one
  pub looked-newest : (found : ℕ) (log : List Change) (g : Generations T) → Looked found log g → found ≡ 0
      → IsAtNewest g (with_seen g log)
  looked-newest found log g looked none = (
    subst (λ n. NewestWas (sight g) n g.seen log) (looked.0.same none) looked.0.was,
    made-later g.seen log g.number (queue_in g.newest.held.pass.pass)
        (was-prefix (sight g) looked.0.number g.seen log looked.0.was) looked.1,
  )

  -- it found that there is one
  pub looked-behind : (found : ℕ) (log : List Change) (g : Generations T) → Looked found log g → 0 < found
      → IsBehind g (with_seen g log)
  looked-behind found log g looked some = (
    looked.0.number,
    looked.0.was,
    looked.0.other some,
    made-later g.seen log g.number (queue_in g.newest.held.pass.pass)
        (was-prefix (sight g) looked.0.number g.seen log looked.0.was) looked.1,
  )

  pub seen-more : (mid new : Generations T) (b : Bool) → MatchBool b (IsAtNewest mid new) (IsBehind mid new)
      → IsPrefix mid.seen new.seen
  seen-more mid new true at = was-prefix (sight new) new.number mid.seen new.seen at.0
  seen-more mid new false (n, was, other, made) = was-prefix (sight new) n mid.seen new.seen was

  -- what a look found later was found later than before that
  pub both-before : (old mid new : Generations T) → IsPrefix old.seen mid.seen → (b : Bool)
      → MatchBool b (IsAtNewest mid new) (IsBehind mid new) → MatchBool b (IsAtNewest old new) (IsBehind old new)
  both-before old mid new p true at = (was-before (sight new) new.number old.seen mid.seen new.seen p at.0, at.1)
  both-before old mid new p false (n, was, other, made) =
      (n, was-before (sight new) n old.seen mid.seen new.seen p was, other, made)

  pub follows-refl : (g : Generations T) → Follows g g
  follows-refl g = record {
    later = later-refl g;
    up = omega arith;
    kept = all_of g;
    joined = [];
    keeps = leaves-refl g.seen (all_of g);
    all = sym (append-nil (all_of g));
    all_new = All-nil (IsNew g.thread g.number g.seen);
  }

  pub follows-trans : (a b c : Generations T) → Follows a b → Follows b c → Follows a c
  follows-trans a b c f g =
      let P = IsNew a.thread a.number c.seen in
      let s = leaves-split c.seen f.kept f.joined g.kept (subst (λ l. LeavesGone c.seen l g.kept) f.all g.keeps) in
      record {
        later = later-trans a b c f.later g.later;
        up = let first = f.up in let then = g.up in omega (arith, first, then);
        kept = s.0;
        joined = s.1 ++ g.joined;
        keeps = leaves-trans c.seen (all_of a) f.kept s.0 (leaves-later b.seen c.seen (all_of a) f.kept g.later.seen
            f.keeps) s.3;
        all = g.all ∙ ap (λ l. l ++ g.joined) s.2 ∙ append_assoc s.0 s.1 g.joined;
        all_new = All-append P s.1 g.joined
            (all-kept P c.seen f.joined s.1 s.4
            (All-weaker (IsNew a.thread a.number b.seen) P
            (λ h new. new-later a.thread a.number a.number b.seen c.seen h (omega arith) g.later.seen new) f.joined
            f.all_new))
            (All-weaker (IsNew b.thread b.number c.seen) P
            (λ h new. new-later a.thread a.number b.number c.seen c.seen h f.up ([], append-nil c.seen)
            (subst (λ t. IsNew t b.number c.seen h) f.later.thread new)) g.joined g.all_new);
      }

  -- some of the older ones fewer
  pub follows-less : (old new : Generations T) → IsLater old new → LeavesGone new.seen old.older new.older
      → new.newest ≡ old.newest
      → new.number ≡ old.number → Follows old new
  follows-less old new later older newest number =
      let last : List (HeldIn T) = record { handle = old.newest; number = old.number } ∷ [] in
      let same : record { handle = new.newest; number = new.number } ∷ [] ≡ last = λ i. record {
        handle = newest i;
        number = number i;
      } ∷ [] in
      record {
        later = later;
        up = omega (arith, number);
        kept = all_of new;
        joined = [];
        keeps = leaves-append new.seen old.older new.older last (record {
          handle = new.newest;
          number = new.number;
        } ∷ []) older (inl ([], same, refl));
        all = sym (append-nil (all_of new));
        all_new = All-nil (IsNew old.thread old.number new.seen);
      }

  -- generations more, the newest of which is the handle's newest then
  pub follows-jump : (old new : Generations T) (between : List (HeldIn T)) → IsLater old new → old.number ≤ new.number
      → new.older ≡ all_of old ++ between
      → All (IsNew old.thread old.number new.seen) (between ++ record { handle = new.newest; number = new.number } ∷ [])
      → Follows old new
  follows-jump old new between later up older all_new =
      let last : List (HeldIn T) = record { handle = new.newest; number = new.number } ∷ [] in
      record {
        later = later;
        up = up;
        kept = all_of old;
        joined = between ++ last;
        keeps = leaves-refl new.seen (all_of old);
        all = ap (λ l. l ++ last) older ∙ append_assoc (all_of old) between last;
        all_new = all_new;
      }
