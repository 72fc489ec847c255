-- The one-more-window rule of demand 3, in the words of `best`: where one window fewer would do, no slot loses its
-- under part, and where one covered slot fewer would do too, none loses a part.
use Prim.Native.Nat.{ℕ, zero, suc, ◌≤◌, ◌<◌}
use native.Mathlib.Nat.{le_trans}
use native.Mathlib.Omega.{arith}
use mathlib.Core.List.{List}
use mathlib.Core.Path.{◌≡◌, refl}
use borrow.Author.Tests.{le-leb}
use lib.ListN.{get_or, set}
use Rattle.rule.specs.Ranges.{Class, under_only, over_only, either}
use Rattle.rule.specs.declared.Shape.{Shape}
use Rattle.settings.specs.declared.Settings.{Settings}
use Rattle.requests.proofs.BestIsLeast.{best-met, best-le-covered}
use Rattle.requests.proofs.SettledPlans.{settled-under, settled-over}
use Rattle.requests.specs.Best.{Fits, using_one, best}
use Rattle.requests.specs.declared.Loss.TheVariants.{Nothing as nothing}
use Rattle.requests.specs.Solution.{sentinel, possible, loss_of, loss}

module _ (T : ℕ) (shape : Shape) (cs : List Class) (i v c : ℕ) where
  -- marks within one window more bound the count
  best-settled : (cs : List Class) {w n : ℕ} {ms : List ℕ} → Fits shape cs (suc w) n ms → w ≤ v → n ≤ c →
      best T shape cs (suc v) ≤ c
  best-settled cs f e l =
      let within : Fits shape cs (suc v) c _ =
      record { in_rule = f.in_rule; few = omega (arith, f.few); short = omega (arith, f.short) } in
      le_trans (best-le-covered T shape within) within.short

  pub under-kept : shape.settle ≤ 1 → c < T → best T shape cs v ≤ c → best T shape (set cs i under_only) (suc v) ≤ c
  under-kept one small e =
      let (ms, f) = best-met T shape cs v (omega arith) in
      let (ms', settled) = settled-under shape i f one in
      best-settled _ settled f.few e

  pub over-kept : shape.settle ≡ 0 → c < T → best T shape cs v < c → best T shape (set cs i over_only) (suc v) ≤ c
  over-kept none small e =
      let (ms, f) = best-met T shape cs v (omega arith) in
      let (ms', settled) = settled-over shape i f none in
      best-settled _ settled f.few (omega arith)

-- `fewer` is the least covered count with one window fewer
module _ (s : Settings) (cs : List Class) (small : s.covered.most < sentinel) {fewer : ℕ}
    (is : fewer ≡ using_one sentinel s.windows.most (best sentinel s.shape cs)) where
  one_fewer : fewer ≤ s.covered.most →
      (v : ℕ) × (s.windows.most ≡ suc v) × (fewer ≡ best sentinel s.shape cs v)
  one_fewer e = by s.windows.most is
    where
      by : (w : ℕ) → fewer ≡ using_one sentinel w (best sentinel s.shape cs) →
          (v : ℕ) × (w ≡ suc v) × (fewer ≡ best sentinel s.shape cs v)
      by zero f = absurd (omega arith)
      by (suc v) f = (v, refl, f)

  pub no-under-lost : fewer ≤ s.covered.most → s.shape.settle ≤ 1 → (i : ℕ) →
      best sentinel s.shape (set cs i under_only) s.windows.most ≤ s.covered.most
  no-under-lost e one i =
      let (v, most, f) = one_fewer e in
      rw most (under-kept sentinel s.shape cs i v s.covered.most one small (omega (arith, e, f)))

  no-over-lost : fewer < s.covered.most → s.shape.settle ≡ 0 → (i : ℕ) →
      best sentinel s.shape (set cs i over_only) s.windows.most ≤ s.covered.most
  no-over-lost e none i =
      let (v, most, f) = one_fewer (omega arith) in
      rw most (over-kept sentinel s.shape cs i v s.covered.most none small (omega (arith, e, f)))

  pub nothing-lost : fewer < s.covered.most → s.shape.settle ≡ 0 → (i : ℕ) → nothing ≡ loss s cs i
  unfolding loss possible
  nothing-lost e none i = by (get_or cs i under_only)
    where
      by : (c : Class) → nothing ≡ loss_of s cs i c
      by under_only = refl
      by over_only = refl
      by either =
          rw (le-leb _ _ (no-under-lost (omega arith) (omega arith) i), le-leb _ _ (no-over-lost e none i)) refl
