-- The first byte of an input that is no white space.
use Rattle.std.proofs.Common.{◌≡◌, ◌≢◌, ◌<◌, ◌↔◌, ◌++◌, ◌∙◌, ℕ, List, ap, get_or, length, arith, subst, sym}
use Rattle.std.proofs.lemmas.List.{get_or_append_left}
use Rattle.kfifo_judge.specs.Inputs.{BeginsLog, BeginsRecord, EndsSpaces, IsSpace}

no_bracket : IsSpace 91 → ⊥
no_bracket s = omega (arith, s)

-- it is where all before it are white space, and it is none
first_is : (bytes : List ℕ) (place : ℕ) → (IsSpace (get_or bytes place 0) → ⊥)
    → ((n : ℕ) → n < place → IsSpace (get_or bytes n 0))
    → BeginsRecord bytes → get_or bytes place 0 ≡ 91
first_is bytes place other spaces r =
    let early : r.place < place → ⊥ = λ l. no_bracket (subst IsSpace r.bracket (spaces r.place l)) in
    let late : place < r.place → ⊥ = λ l. other (r.spaces place l) in
    let same : r.place ≡ place = omega (arith, early, late) in
    subst (λ n. get_or bytes n 0 ≡ 91) same r.bracket

pub tells : (bytes : List ℕ) (place : ℕ) → place < length bytes → (IsSpace (get_or bytes place 0) → ⊥)
    → ((n : ℕ) → n < place → IsSpace (get_or bytes n 0)) → get_or bytes place 0 ≡ 91 ↔ BeginsRecord bytes
tells bytes place inside other spaces = (
  (λ e. record { place = place; inside = inside; bracket = e; spaces = spaces }),
  (λ r. first_is bytes place other spaces r),
)

-- white space alone is no record
pub none : (bytes : List ℕ) → ((n : ℕ) → n < length bytes → IsSpace (get_or bytes n 0)) → BeginsRecord bytes → ⊥
none bytes spaces r = no_bracket (subst IsSpace r.bracket (spaces r.place r.inside))

-- a text whose first byte that is no white space is no bracket is none, whatever comes behind it
pub no_record : (bytes : List ℕ) (place : ℕ) → EndsSpaces bytes place → place < length bytes → get_or bytes place 0 ≢ 91
    → BeginsLog bytes
no_record bytes place ends inside other = (
  (λ none. (let empty = ap length none in omega (arith, empty, inside))),
  (λ more r.
      let same : (n : ℕ) → n < length bytes → get_or (bytes ++ more) n 0 ≡ get_or bytes n 0 =
      λ n there. get_or_append_left bytes more 0 n there in
      let no : IsSpace (get_or (bytes ++ more) place 0) → ⊥ =
      λ space. ends.other inside (subst IsSpace (same place inside) space) in
      let spaces : (n : ℕ) → n < place → IsSpace (get_or (bytes ++ more) n 0) =
      λ n before. (
      let there : n < length bytes = omega (arith, before, inside) in
      subst IsSpace (sym (same n there)) (ends.spaces n before)
      ) in
      other (sym (same place inside) ∙ first_is (bytes ++ more) place no spaces r)),
)
