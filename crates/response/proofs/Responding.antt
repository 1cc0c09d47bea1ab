-- The analysis of one row among listed rows comes to what it is meant to. Assumes nothing.
use Rattle.std.proofs.Common.{◌≡◌, ℕ, zero, suc, ◌+◌, ◌<◌, ◌≤◌, Bool, true, false, ltb, leb, List, [], ◌∷◌, map, length, get_or, slice_get, option_map, Some, take, drop, sym, refl, ap, ◌∙◌, subst, ap₂, add-one, arith}
use Rattle.std.proofs.lemmas.List.{length-map}
use Rattle.std.proofs.lemmas.Option.{get_or_from_slice_get, slice_get-map}
use Rattle.std.proofs.lemmas.Bool.{lt-leb, leb-false, ltb-false}
use Rattle.sources.specs.Streams.{Model, Laws}
use Rattle.sources.specs.Models.{model, Meanings}
use Rattle.sources.specs.Answers.{Answer, made, refused, checked, outside}
use Rattle.response.specs.declared.listed.Listed as listed
use Rattle.response.specs.declared.place.Place as held
use Rattle.response.specs.Searches.{Found, ended, failed, horizon, fixed_point, value_of}
use Rattle.response.specs.Bounds.{AllLawful, Place, row_place, busy, busy_search, instances, delay, delay_search, Response, ok, late, none, judged, judged_at, response, row, place, longest_of, bound}
use Rattle.response.specs.Runs.{NoLater}
use Rattle.response.specs.Curves.{models, SmallJitters, InRange, busy_answer}
use Rattle.response.specs.Views.{seen}
use Rattle.response.specs.Analysis.{place_answer, row_checks, rows_answer, response_answer, BoundOf, Grounded, GivesLargest, NoRunOutlasts, OfResponse}
use Rattle.response.specs.CurveLemmas.{busy_answer_rises}
use Rattle.response.proofs.Searches.{same_search}
use Rattle.response.proofs.CurveLaws.{busy_never_falls, place_lawful, row_lawful, row_has, take_have}
use Rattle.response.proofs.Bounds.{failed_none, ended_fixed, delayed, bound_covers, bound_reached, instances_positive}
use Rattle.response.proofs.AnswerLaws.{load_exact, loads_exact}
use Rattle.response.proofs.Runs.{no_later_than_bound}

-- An answer without values, with values in their place.
abbrev pub with_values : {V : Type 0} → V → Answer (Unit {0}) → Answer V
with_values v (made u) = made v
with_values v (refused n) = refused n

-- What the checks find does not depend on the values.
pub checked_with : {V : Type 0} (cs : List (Bool × ℕ)) (v : V) → checked cs v ≡ with_values v (checked cs (tt {0}))
checked_with [] v = refl
checked_with {V} ((b, n) ∷ cs) v =
    elim b as (λ t. ◌≡◌ {A = Answer V} (elim t [ true ↦ refused n | false ↦ checked cs v ]) (with_values v (elim t [ true ↦ refused n | false ↦ checked cs (tt {0}) ])))
    [ true ↦ refl | false ↦ checked_with cs v ]

-- Where the values are answered, the first check passes, and so do the others.
pub first_passes : {V : Type 0} (b : Bool) (n : ℕ) (cs : List (Bool × ℕ)) (v : V) → checked ((b, n) ∷ cs) v ≡ made v → (b ≡ false) × (checked cs v ≡ made v)
first_passes true n cs v e = let z : ◌≡◌ {A = ℕ} 0 1 = cc in absurd (omega arith)
first_passes false n cs v e = (refl, e)

-- What holds of the values holds of the answer.
pub of_checked : (P : Response → Type 0) (cs : List (Bool × ℕ)) (v : Response) → P v → OfResponse P (checked cs v)
of_checked P [] v h = h
of_checked P ((b, n) ∷ cs) v h = elim b as (λ t. OfResponse P (elim t [ true ↦ refused n | false ↦ checked cs v ])) [ true ↦ tt | false ↦ of_checked P cs v h ]

-- A place that passes its check is one of the rows'.
pub placed : (rows m : ℕ) → made (tt {0}) ≡ place_answer rows m → m < rows
placed rows m e = leb-false rows m (first_passes (leb rows m) 25 [] (tt {0}) (sym e)).0

module _ (rows : List Model) (deadlines : List ℕ) (m : ℕ) where
  -- The answer where there is such a row.
  pub a_row : m < length rows → response_answer rows deadlines m ≡ with_values (response (place rows m) (get_or deadlines m 0)) (rows_answer rows deadlines)
  a_row l =
      ap (λ b. checked ((b, 25) ∷ row_checks rows deadlines) (response (place rows m) (get_or deadlines m 0))) (lt-leb (length rows) m l)
      ∙ checked_with (row_checks rows deadlines) (response (place rows m) (get_or deadlines m 0))

  -- What holds of a row's response holds of the answer.
  pub of_answer : (P : Response → Type 0) → (m < length rows → P (response (place rows m) (get_or deadlines m 0))) → OfResponse P (response_answer rows deadlines m)
  of_answer P h = go (leb (length rows) m) refl
    where
      go : (b : Bool) → leb (length rows) m ≡ b → OfResponse P (elim b [ true ↦ refused 25 | false ↦ checked (row_checks rows deadlines) (response (place rows m) (get_or deadlines m 0)) ])
      go true e = tt
      go false e = of_checked P (row_checks rows deadlines) (response (place rows m) (get_or deadlines m 0)) (h (leb-false (length rows) m e))

-- The response of a row whose busy period ends, and of one whose busy period does not.
pub response_ended : (p : Place) (deadline t rounds : ℕ) → busy_search p ≡ ended t rounds → response p deadline ≡ judged_at p deadline t rounds
response_ended p deadline t rounds e = ap (λ o. elim o as (λ _. Response) [ ended t rounds ↦ judged_at p deadline t rounds | failed rounds ↦ none rounds ]) e

pub response_failed : (p : Place) (deadline rounds : ℕ) → busy_search p ≡ failed rounds → response p deadline ≡ none rounds
response_failed p deadline rounds e = ap (λ o. elim o as (λ _. Response) [ ended t rounds ↦ judged_at p deadline t rounds | failed rounds ↦ none rounds ]) e

-- What holds of a judged response, ok or late.
of_judged : (P : Response → Type 0) (deadline b rounds : ℕ) → P (ok b rounds) → P (late b rounds) → P (judged deadline b rounds)
of_judged P deadline b rounds if_ok if_late = elim (leb b deadline) as (λ t. P (elim t [ true ↦ ok b rounds | false ↦ late b rounds ])) [ true ↦ if_ok | false ↦ if_late ]

-- What holds of a response, as its busy search ends or fails.
pub of_response : (P : Response → Type 0) (p : Place) (deadline : ℕ) →
    ((t rounds : ℕ) → busy_search p ≡ ended t rounds → (n : ℕ) → P (ok (bound p (instances p t)) n) × P (late (bound p (instances p t)) n)) →
    ((rounds : ℕ) → busy_search p ≡ failed rounds → P (none rounds)) → P (response p deadline)
of_response P p deadline if_ends if_fails = go (busy_search p) refl
  where
    go : (o : Found) → busy_search p ≡ o → P (response p deadline)
    go (ended t rounds) e =
        subst P (sym (response_ended p deadline t rounds e))
        (of_judged P deadline (bound p (instances p t)) _ (if_ends t rounds e _).0 (if_ends t rounds e _).1)
    go (failed rounds) e = subst P (sym (response_failed p deadline rounds e)) (if_fails rounds e)

module _ (rows : List Model) (laws : AllLawful rows) (m : ℕ) (inside : m < length rows) where
  -- The busy period of the row ends where its search does.
  ends_so : (t rounds : ℕ) → busy_search (place rows m) ≡ ended t rounds → BoundOf (place rows m) (bound (place rows m) (instances (place rows m) t))
  ends_so t rounds e =
      let at_place = place_lawful rows laws m inside in
      let period = ended_fixed (place rows m) at_place.0 at_place.1 t rounds e in
      record {
        ends = record {
          time = t;
          rounds = rounds;
          is_end = e;
          fixed = period.0;
          positive = period.1;
          within = period.2;
          delays_end = λ q l. let found = delayed (place rows m) at_place.0 at_place.1 t period q l in (found.value, found.rounds, found.ends);
        };
        covers = bound_covers (place rows m) at_place.0 at_place.1 (instances (place rows m) t);
        reached = bound_reached (place rows m) at_place.0 at_place.1 (instances (place rows m) t) (instances_positive (place rows m) at_place.0 at_place.1 t period);
      }

  -- A bound is given where the busy period ends, and none exactly where it has no end.
  pub grounded : (deadline : ℕ) → Grounded (place rows m) (response (place rows m) deadline)
  grounded deadline =
      let at_place = place_lawful rows laws m inside in
      of_response (Grounded (place rows m)) (place rows m) deadline
      (λ t rounds e n. ((ends_so t rounds e).ends, (ends_so t rounds e).ends))
      (λ rounds e. failed_none (place rows m) at_place.0 at_place.1 rounds e)

  -- A bound is the largest of what the instances come to.
  pub largest_given : (deadline : ℕ) → GivesLargest (place rows m) (response (place rows m) deadline)
  largest_given deadline =
      of_response (GivesLargest (place rows m)) (place rows m) deadline (λ t rounds e n. (ends_so t rounds e, ends_so t rounds e)) (λ rounds e. tt)

  -- No lawful run outlasts the bound.
  bound_holds : (t rounds : ℕ) → busy_search (place rows m) ≡ ended t rounds → NoLater rows m (bound (place rows m) (instances (place rows m) t))
  bound_holds t rounds e =
      let at_place = place_lawful rows laws m inside in
      let period = ended_fixed (place rows m) at_place.0 at_place.1 t rounds e in
      no_later_than_bound rows (row_lawful rows laws) m inside t period.1 period.0
      (λ q l.
      let found = delayed (place rows m) at_place.0 at_place.1 t period q l in
      let value_is : value_of (delay_search (place rows m) q) ≡ found.value = ap value_of found.ends in
      subst (λ w. delay (place rows m) q w ≡ w) (sym value_is) found.stands)

  pub no_run_outlasts : (deadline : ℕ) → NoRunOutlasts rows m (response (place rows m) deadline)
  no_run_outlasts deadline =
      of_response (NoRunOutlasts rows m) (place rows m) deadline
      (λ t rounds e n. (bound_holds t rounds e, bound_holds t rounds e))
      (λ rounds e. tt)

-- What the answer of the analysis says, whatever the rows and the place.
pub answer_grounded : (rows : List Model) → AllLawful rows → (deadlines : List ℕ) (m : ℕ) → OfResponse (Grounded (place rows m)) (response_answer rows deadlines m)
answer_grounded rows laws deadlines m = of_answer rows deadlines m (Grounded (place rows m)) (λ l. grounded rows laws m l (get_or deadlines m 0))

pub answer_largest : (rows : List Model) → AllLawful rows → (deadlines : List ℕ) (m : ℕ) → OfResponse (GivesLargest (place rows m)) (response_answer rows deadlines m)
answer_largest rows laws deadlines m = of_answer rows deadlines m (GivesLargest (place rows m)) (λ l. largest_given rows laws m l (get_or deadlines m 0))

pub answer_holds : (rows : List Model) → AllLawful rows → (deadlines : List ℕ) (m : ℕ) → OfResponse (NoRunOutlasts rows m) (response_answer rows deadlines m)
answer_holds rows laws deadlines m = of_answer rows deadlines m (NoRunOutlasts rows m) (λ l. no_run_outlasts rows laws m l (get_or deadlines m 0))

-- The busy search on the evaluated curve is the busy search.
pub busy_found : (p : Place) → AllLawful p.above → Laws p.own → InRange p → fixed_point (busy_answer p) (p.blocking + p.own.work 1) ≡ busy_search p
busy_found p upper own in_range =
    sym
    (same_search (busy p) (busy_answer p) (busy_never_falls p upper own) (busy_answer_rises p upper own)
    (λ x. x ≤ horizon) (λ x before within. within)
    (λ x within. omega (arith, load_exact p.own in_range.1 x within, loads_exact p.above in_range.0 x within))
    (p.blocking + p.own.work 1) (omega (arith, own.work_at_most 1, in_range.2)))

-- Each of lawful rows with small jitters is in range.
pub place_in_range : (ms : List Model) → AllLawful ms → SmallJitters ms → (k : ℕ) → k < length ms → InRange (place ms k)
place_in_range ms laws small k inside = (take_have (λ m. m.jitter ≤ horizon) k ms small, row_has (λ m. m.jitter ≤ horizon) ms small k inside, (place_lawful ms laws k inside).2)

module _ {L S : Type 0} (rows : listed.Ghosts L S) (sources : Meanings S) where
  pub models_length : (ls : List L) → length (models rows sources ls) ≡ length ls
  models_length ls = length-map ls (λ l. model sources (rows.source l))

  pub models_take : (k : ℕ) (ls : List L) → models rows sources (take k ls) ≡ take k (models rows sources ls)
  models_take zero ls = refl
  models_take (suc k) [] = refl
  models_take (suc k) (l ∷ ls) = ap (λ ms. model sources (rows.source l) ∷ ms) (models_take k ls)

  pub models_drop : (k : ℕ) (ls : List L) → models rows sources (drop k ls) ≡ drop k (models rows sources ls)
  models_drop zero ls = refl
  models_drop (suc k) [] = refl
  models_drop (suc k) (l ∷ ls) = models_drop k ls

  pub models_row : (ls : List L) (k : ℕ) (l : L) → k < length ls → row (models rows sources ls) k ≡ model sources (rows.source (get_or ls k l))
  models_row [] k l inside = absurd (omega arith)
  models_row (x ∷ ls) zero l inside = refl
  models_row (x ∷ ls) (suc k) l inside = models_row ls k l (omega arith)

  -- The model of the row that stands at a place.
  row_is : (ls : List L) (k : ℕ) (l : L) → slice_get ls k ≡ Some l → model sources (rows.source l) ≡ row (models rows sources ls) k
  row_is [] k l is = cc
  row_is (x ∷ ls) zero l is = let same : x ≡ l = cc in ap (λ y. model sources (rows.source y)) (sym same)
  row_is (x ∷ ls) (suc k) l is = row_is ls k l is

  -- Rows that pass their checks have small jitters.
  pub small_jitters : (ls : List L) → rows_answer (models rows sources ls) (map rows.deadline ls) ≡ made (tt {0}) → SmallJitters (models rows sources ls)
  small_jitters [] e = tt
  small_jitters (l ∷ ls) e =
      let after_deadline = first_passes (outside 1 horizon (rows.deadline l)) 21 ((ltb horizon (sources.jitter (rows.source l)), 22) ∷ row_checks (models rows sources ls) (map rows.deadline ls)) (tt {0}) e in
      let after_jitter = first_passes (ltb horizon (sources.jitter (rows.source l))) 22 (row_checks (models rows sources ls) (map rows.deadline ls)) (tt {0}) after_deadline.1 in
      (ltb-false horizon (sources.jitter (rows.source l)) after_jitter.0, small_jitters ls after_jitter.1)

  -- Rows before a place, and the row at it, have small jitters where all rows have.
  pub small_above : (k : ℕ) (ls : List L) → SmallJitters (models rows sources ls) → SmallJitters (models rows sources (take k ls))
  small_above zero ls small = tt
  small_above (suc k) [] small = tt
  small_above (suc k) (l ∷ ls) (first, rest) = (first, small_above k ls rest)

  pub small_at : (k : ℕ) (ls : List L) (d : L) → k < length ls → SmallJitters (models rows sources ls) → sources.jitter (rows.source (get_or ls k d)) ≤ horizon
  small_at k [] d inside small = absurd (omega arith)
  small_at zero (l ∷ ls) d inside (first, rest) = first
  small_at (suc k) (l ∷ ls) d inside (first, rest) = small_at k ls d (omega arith) rest

  -- The row at a place, as its analysis sees it, from the parts of the list.
  pub place_is : (ls : List L) (k : ℕ) (l : L) → k < length ls → l ≡ get_or ls k l →
      row_place (models rows sources (take k ls)) (model sources (rows.source l)) (longest_of (models rows sources (drop (k + 1) ls))) ≡ place (models rows sources ls) k
  place_is ls k l inside is =
      let own : model sources (rows.source l) ≡ row (models rows sources ls) k = ap (λ x. model sources (rows.source x)) is ∙ sym (models_row ls k l inside) in
      let below : longest_of (models rows sources (drop (k + 1) ls)) ≡ longest_of (drop (suc k) (models rows sources ls)) =
      ap longest_of (models_drop (k + 1) ls ∙ ap (λ n. drop n (models rows sources ls)) (add-one k)) in
      ap (λ above. row_place above (model sources (rows.source l)) (longest_of (models rows sources (drop (k + 1) ls)))) (models_take k ls)
      ∙ ap₂ (row_place (take k (models rows sources ls))) own below

  -- The row at place k of a list, as the code holds it.
  module _ (ls : List L) (k : ℕ) (p : held.Place L) (above : p.above.now ≡ take k ls) (own : slice_get ls k ≡ Some p.own.now)
      (blocking : p.blocking ≡ longest_of (models rows sources (drop (k + 1) ls))) where
    -- It is the row as its analysis sees it.
    pub the_place : seen rows sources p ≡ place (models rows sources ls) k
    the_place =
        ap₂ (λ a b. row_place (models rows sources a) (model sources (rows.source p.own.now)) b) above
        (blocking ∙ ap longest_of (models_drop (k + 1) ls ∙ ap (λ n. drop n (models rows sources ls)) (add-one k)))
        ∙ ap₂ (λ a o. row_place a o (longest_of (drop (suc k) (models rows sources ls)))) (models_take k ls) (row_is ls k p.own.now own)

    pub the_deadline : rows.deadline p.own.now ≡ get_or (map rows.deadline ls) k 0
    the_deadline = sym (get_or_from_slice_get (map rows.deadline ls) k (rows.deadline p.own.now) 0 (slice_get-map rows.deadline ls k ∙ ap (option_map rows.deadline) own))

    pub the_response : response (seen rows sources p) (rows.deadline p.own.now) ≡ response (place (models rows sources ls) k) (get_or (map rows.deadline ls) k 0)
    the_response = ap₂ response the_place the_deadline

    module _ (inside : k < length ls) (passed : made (tt {0}) ≡ rows_answer (models rows sources ls) (map rows.deadline ls)) where
      -- Where all rows passed their checks, it is in range.
      pub its_range : AllLawful (models rows sources ls) → InRange (seen rows sources p)
      its_range laws =
          subst InRange (sym the_place)
          (place_in_range (models rows sources ls) laws (small_jitters ls (sym passed)) k (omega (arith, models_length ls)))

      -- Its response is then the answer.
      pub answered_with : (o : Response) → o ≡ response (place (models rows sources ls) k) (get_or (map rows.deadline ls) k 0) →
          made o ≡ response_answer (models rows sources ls) (map rows.deadline ls) k
      answered_with o is =
          ap made is ∙ ap (with_values (response (place (models rows sources ls) k) (get_or (map rows.deadline ls) k 0))) passed
          ∙ sym (a_row (models rows sources ls) (map rows.deadline ls) k (omega (arith, models_length ls)))
