-- What the loads are as the calls of the sources answer them. Assumes nothing.
use Rattle.std.proofs.Common.{◌≡◌, ℕ, ◌+◌, ◌≤◌, ◌<◌, min, max, Bool, true, false, ltb, Bor, Option, Some, None, List, [], ◌∷◌, ◌⊎◌, inl, inr, ⊎_elim, refl, sym, ap, ◌∙◌, ap₂, subst, arith}
use Rattle.std.specs.Bool.{MatchBool}
use Rattle.std.specs.ControlFlow.{continue_value}
use Rattle.std.specs.Fn.{Called, Mut}
use Rattle.std.specs.Iterator.Runs.{Run, SomeRun, YieldsRefsInOrder, ActsAsWhileContinuing, IsTryFoldRun}
use Rattle.std.specs.List.{fold}
use Rattle.std.specs.Option.{MatchOption}
use Rattle.std.proofs.lemmas.Bool.{ltb-true, ltb-false}
use Rattle.std.proofs.lemmas.Option.{none-some, same_Some}
use Rattle.sources.specs.Streams.{Model, Laws}
use Rattle.sources.specs.Counts.{count, argument, jitter_answer}
use Rattle.sources.specs.CountsLemmas.{count_le}
use Rattle.sources.specs.Models.{model, Meanings}
use Rattle.response.specs.declared.listed.Listed as listed
use Rattle.response.specs.Searches.{horizon}
use Rattle.response.specs.Bounds.{longest_of, load, loads}
use Rattle.response.specs.Curves.{models, SmallJitters, load_answer, added, loads_answer}

module _ (m : Model) (laws : Laws m) where
  -- No more instances are counted than bit times.
  pub counted : (x : ℕ) → count m.gap x ≤ x
  counted x = count_le m.gap laws.gap_zero laws.gap_never_falls laws.gap_at_least x

  -- The calls for a load have arguments that are taken as they are.
  pub load_by_calls : (t within number result : ℕ) → within ≡ min t horizon + jitter_answer m.jitter →
      number ≡ count m.gap (argument within) → result ≡ m.work (argument number) → result ≡ load_answer m t
  load_by_calls t within number result x n r =
      let as_it_is : argument within ≡ min t horizon + jitter_answer m.jitter = omega arith in
      let counts : number ≡ count m.gap (min t horizon + jitter_answer m.jitter) = n ∙ ap (count m.gap) as_it_is in
      let few : argument number ≡ number = omega (arith, counted (argument within)) in
      r ∙ ap m.work (few ∙ counts)

  -- A load fits 32 bits.
  pub load_small : (t : ℕ) → load_answer m t ≤ 320000160
  load_small t =
      omega (arith, laws.work_at_most (count m.gap (min t horizon + jitter_answer m.jitter)), counted (min t horizon + jitter_answer m.jitter))

-- The longest frame of rows, as the larger of a number and each row's frame in turn.
longest_after : {L S : Type 0} (rows : listed.Ghosts L S) (sources : Meanings S) (ls : List L) (n : ℕ) →
    fold (λ a l. max a (sources.work (rows.source l) 1)) n ls ≡ max n (longest_of (models rows sources ls))
longest_after rows sources [] n = omega arith
longest_after rows sources (l ∷ ls) n = omega (arith, longest_after rows sources ls (max n (sources.work (rows.source l) 1)))

pub longest_folded : {L S : Type 0} (rows : listed.Ghosts L S) (sources : Meanings S) (ls : List L) (r : ℕ) →
    r ≡ fold (λ a l. max a (sources.work (rows.source l) 1)) 0 ls → r ≡ longest_of (models rows sources ls)
longest_folded rows sources ls r is = omega (arith, longest_after rows sources ls 0)

-- Where a load is added, a sum never falls; where none is, the sum is above the horizon.
added_Some : (n more sum : ℕ) → added n more ≡ Some sum → sum ≡ max n (min (n + more) 4294967295)
added_Some n more sum = go (ltb horizon n) refl
  where
    go : (b : Bool) → ltb horizon n ≡ b → ◌≡◌ {A = Option ℕ} (elim b [ true ↦ None | false ↦ Some (min (n + more) 4294967295) ]) (Some sum) → sum ≡ max n (min (n + more) 4294967295)
    go true over is = absurd (none-some sum is)
    go false within is = omega (arith, ltb-false horizon n within, same_Some (min (n + more) 4294967295) sum is)

added_None : (n more : ℕ) → added n more ≡ None → horizon < n
added_None n more = go (ltb horizon n) refl
  where
    go : (b : Bool) → ltb horizon n ≡ b → ◌≡◌ {A = Option ℕ} (elim b [ true ↦ None | false ↦ Some (min (n + more) 4294967295) ]) None → horizon < n
    go true over is = ltb-true horizon n over
    go false within is = absurd (none-some (min (n + more) 4294967295) (sym is))

-- The loads of rows, added to a number in turn.
loads_after : {L S : Type 0} (rows : listed.Ghosts L S) (sources : Meanings S) (ls : List L) (t n : ℕ) →
    min (fold (λ a l. max a (min (a + load_answer (model sources (rows.source l)) t) 4294967295)) n ls) 1000001 ≡ min (n + loads_answer (models rows sources ls) t) 1000001
loads_after rows sources [] t n = omega arith
loads_after rows sources (l ∷ ls) t n =
    let more = load_answer (model sources (rows.source l)) t in
    omega (arith, loads_after rows sources ls t (max n (min (n + more) 4294967295)))

either_way : {P Q : Type 0} (whole : Bool) → MatchBool whole P Q → ((whole ≡ true) × P) ⊎ Q
either_way true p = inl (refl, p)
either_way false q = inr q

-- What a `try_fold` over rows comes to, where each call adds one load: the sum of all loads, or none where the sum so far is above the horizon.
module _ {A F S : Type 0} {steps : S → Option A → S → Type 0} (p : Run steps) (g : Mut F (ℕ × (A × Unit {0})) (Option ℕ)) (f : F) (more : A → ℕ)
    (called : (a : ℕ) (x : A) (v : Option ℕ) (f' : F) → Called g f (a, (x, tt)) v f' → (f' ≡ f) × (v ≡ added a (more x))) where
  abbrev next : ℕ → A → ℕ
  next a x = max a (min (a + more x) 4294967295)

  summed : (E : Type 0) (n : ℕ) (tried : Option ℕ) → IsTryFoldRun p {E = E} g f (λ v w. v ≡ continue_value w) (λ _ v. v ≡ None) n tried →
      MatchOption tried (horizon < fold next n p.items) (λ sum. (p.whole ≡ true) × (sum ≡ fold next n p.items))
  summed E n tried run =
      let Comes : Option ℕ → Type 0 = λ v. MatchOption v (horizon < fold next n p.items) (λ sum. (p.whole ≡ true) × (sum ≡ fold next n p.items)) in
      let acts : ActsAsWhileContinuing p {E = E} g f (λ v w. v ≡ continue_value w) next =
      λ a x v sum f' call goes_on. let is = called a x v f' call in (is.0, added_Some a (more x) sum (sym is.1 ∙ goes_on)) in
      ⊎_elim
      (λ all. subst Comes (sym all.1.1) (all.0, all.1.2 next acts))
      (λ part.
      let last = part.3 in
      let sums = last.9 next acts in
      let call = subst (λ i. Called g i (last.1, (last.0, tt)) last.2 last.4) sums.1 last.7 in
      let over : horizon < last.1 = added_None last.1 (more last.0) (sym (called last.1 last.0 last.2 last.4 call).1 ∙ last.8) in
      let most : horizon < fold next n p.items = omega (arith, sums.0, over) in
      subst Comes (sym part.1) most)
      (either_way p.whole run)

-- So, up to 1,000,001, it comes to the sum of all loads.
capped : (tried : Option ℕ) (whole : Type 0) (items all r : ℕ) →
    MatchOption tried (horizon < items) (λ sum. whole × (sum ≡ items)) → (whole → items ≡ all) → items ≤ all →
    MatchOption tried (r ≡ 1000001) (λ sum. r ≡ min sum 1000001) → r ≡ min all 1000001
capped None whole items all r over equal below is = omega (arith, over, below, is)
capped (Some sum) whole items all r (done, total) equal below is = omega (arith, total, equal done, is)

pub loads_tried : {L S F I : Type 0} (E : Type 0) (rows : listed.Ghosts L S) (sources : Meanings S) (steps : I → Option (Bor L) → I → Type 0) (rest : I → List L) (s : I)
    (g : Mut F (ℕ × (Bor L × Unit {0})) (Option ℕ)) (f : F) (ls : List L) (t held : ℕ) (tried : Option ℕ) (r : ℕ) →
    SomeRun steps s (λ p. IsTryFoldRun p {E = E} g f (λ v w. v ≡ continue_value w) (λ _ v. v ≡ None) held tried) → YieldsRefsInOrder steps rest → rest s ≡ ls →
    ((a : ℕ) (x : Bor L) (v : Option ℕ) (f' : F) → Called g f (a, (x, tt)) v f' → (f' ≡ f) × (v ≡ added a (load_answer (model sources (rows.source x.now)) t))) →
    MatchOption tried (r ≡ 1000001) (λ sum. r ≡ min sum 1000001) → r ≡ min (held + loads_answer (models rows sources ls) t) 1000001
loads_tried {L} E rows sources steps rest s g f ls t held tried r run yields is_rest called is =
    let p = run.0 in
    let each = yields p p.seen in
    let h : ℕ → L → ℕ = λ a l. max a (min (a + load_answer (model sources (rows.source l)) t) 4294967295) in
    capped tried (p.whole ≡ true) (fold (λ a x. h a x.now) held p.items) (fold h held (rest p.from)) r
    (summed p g f (λ x. load_answer (model sources (rows.source x.now)) t) called E held tried run.2)
    (each.5 h held) (each.7 h held (λ a y. omega arith)) is
    ∙ loads_after rows sources (rest p.from) t held ∙ ap (λ l. min (held + loads_answer (models rows sources l) t) 1000001) (ap rest run.1 ∙ is_rest)

-- Where no jitter is above the horizon, the loads are as they are meant, for times up to the horizon.
pub load_exact : (m : Model) → m.jitter ≤ horizon → (t : ℕ) → t ≤ horizon → load_answer m t ≡ load m t
load_exact m small t within =
    let time : min t horizon ≡ t = omega arith in
    let jitter : jitter_answer m.jitter ≡ m.jitter = omega arith in
    ap₂ (λ a b. m.work (count m.gap (a + b))) time jitter

pub loads_exact : (ms : List Model) → SmallJitters ms → (t : ℕ) → t ≤ horizon → loads_answer ms t ≡ loads ms t
loads_exact [] small t within = refl
loads_exact (m ∷ ms) (first, rest) t within = ap₂ (λ a b. a + b) (load_exact m first t within) (loads_exact ms rest t within)
