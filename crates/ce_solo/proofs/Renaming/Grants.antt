-- The machine's names for the blocks of a granted cube are in the order of the cube's names.
use Rattle.std.proofs.Common.{◌≡◌, ◌⊎◌, ℕ, ◌+◌, ◌^◌, ◌<◌, ◌≤◌, false, ◌&&◌, ◌||◌, ◌==◌, nat_lt, if◌then◌else◌, refl, ap, subst, inl, inr, arith, pow_mono}
use Rattle.std.proofs.lemmas.Bool.{cases_order, lt-ltb, le-ltb, eq-eqb, ne_eqb}
use Rattle.ce_model.specs.Limits.{greatest_dim, host_home, greatest_nodes_lem, host_home_lem}
use Rattle.ce_model.specs.Subcubes.{node_of, IsSubcube}
use Rattle.ce_model.specs.Owners.{IsBlockOf}
use Rattle.ce_model.specs.Hearing.{Hearing, start_of, mail_of, kill_of, poll_of, answer_of, nothing}
use Rattle.ce_model.specs.Renaming.{CubeGrant, block_outward}
use Rattle.ce_model.proofs.Subcubes.{all_subcubes, node_of-rises, node_of-within, ones_of-bound}
use Rattle.ce_solo.specs.Laws.{IsGrant, IsHearingOfCube, RenamedNodesAgree}
use Rattle.ce_solo.proofs.Renaming.Store.{IsOrderKept}
use Rattle.ce_solo.proofs.Renaming.Nodes.{named-from}
use Rattle.ce_solo.proofs.Renaming.Calls.{Names}
use Rattle.ce_solo.proofs.Renaming.Turns.{says-renamed}
use Rattle.ce_solo.proofs.Renaming.Answers.{IsNamedHeard, hears-renamed}

-- the home of a block, as the machine numbers it
abbrev home_outward : CubeGrant → ℕ → ℕ
home_outward grant home = if home == host_home then host_home + grant.user else node_of grant.sub home

-- the home of a block of a cube of this dimension
abbrev IsHome : ℕ → ℕ → Type 0
IsHome dim home = (home < 2 ^ dim) ⊎ (home ≡ host_home)

grant_subcube : (dim : ℕ) (grant : CubeGrant) → IsGrant dim grant → IsSubcube dim grant.dim grant.sub
grant_subcube dim grant of =
    subst (λ sub. IsSubcube dim grant.dim sub) of.sub.2 (all_subcubes dim grant.dim of.sub.0 grant.sub of.sub.1)

pub few_nodes : (dim : ℕ) → dim ≤ greatest_dim → 2 ^ dim ≤ 64
few_nodes dim within = rw (← greatest_nodes_lem) (pow_mono within)

module _ (dim : ℕ) (grant : CubeGrant) (of : IsGrant dim grant) where
  few_relative : 2 ^ grant.dim ≤ 64
  few_relative =
      let sub = grant_subcube dim grant of in
      few_nodes grant.dim (rw (← sub.dimension) (ones_of-bound greatest_dim grant.sub.mask))

  of_node : (home : ℕ) → home < 2 ^ grant.dim → home_outward grant home ≡ node_of grant.sub home
  of_node home below =
      let apart : (home == host_home) ≡ false = ne_eqb _ _ (omega (arith, few_relative, host_home_lem)) in
      rw apart refl

  of_host : home_outward grant host_home ≡ host_home + grant.user
  of_host = rw (eq-eqb host_home host_home refl) refl

  home-rises : (a b : ℕ) → IsHome grant.dim a → IsHome grant.dim b → a < b → home_outward grant a < home_outward grant b
  home-rises a b (inl node_a) (inl node_b) less =
      let sub = grant_subcube dim grant of in
      rw (of_node a node_a, of_node b node_b) (node_of-rises grant.sub a b (rw sub.dimension node_b) less)
  home-rises a b (inl node_a) (inr host_b) less =
      let sub = grant_subcube dim grant of in
      let below = node_of-within dim a grant.sub sub.base_within sub.mask_within sub.apart in
      rw (of_node a node_a, host_b, of_host) (omega (arith, below, few_nodes dim of.within, host_home_lem))
  home-rises a b (inr host_a) (inl node_b) less = absurd (omega (arith, few_relative, host_home_lem))
  home-rises a b (inr host_a) (inr host_b) less = absurd (omega arith)

-- names whose homes stand in one order stand in one order
same_order : (a b a' b' i j : ℕ) → (a < b → a' < b') → (b < a → b' < a') → (a ≡ b → a' ≡ b')
    → (nat_lt a' b' || (a' == b' && nat_lt i j)) ≡ (nat_lt a b || (a == b && nat_lt i j))
same_order a b a' b' i j up down same =
    elim (cases_order a b) [
      | inl equal ↦
          rw (le-ltb a b (omega arith), le-ltb a' b' (omega (arith, same equal)), eq-eqb a b equal, eq-eqb a' b' (same equal)) refl
      | inr (inl less) ↦ rw (lt-ltb a b less, lt-ltb a' b' (up less)) refl
      | inr (inr more) ↦
          rw (le-ltb a b (omega arith), le-ltb a' b' (omega (arith, down more)), ne_eqb a b (omega arith), ne_eqb a' b' (omega (arith, down more))) refl
    ]

outward_order : (dim : ℕ) (grant : CubeGrant) → IsGrant dim grant → IsOrderKept (block_outward grant) (IsBlockOf grant.dim)
outward_order dim grant of = record {
  kept = λ a b of_a of_b.
      same_order a.home b.home (home_outward grant a.home) (home_outward grant b.home) a.index b.index
      (home-rises dim grant of a.home b.home of_a.home of_b.home) (home-rises dim grant of b.home a.home of_b.home of_a.home)
      (ap (home_outward grant));
}

outward_names : (dim : ℕ) (grant : CubeGrant) → IsGrant dim grant → Names
outward_names dim grant of = record {
  rename = block_outward grant;
  home = node_of grant.sub;
  P = IsBlockOf grant.dim;
  order = outward_order dim grant of;
}

named_heard : (dim : ℕ) (grant : CubeGrant) (of : IsGrant dim grant) (heard : Hearing) → IsHearingOfCube grant.dim heard → IsNamedHeard (outward_names dim grant of) heard
unfolding outward_names
named_heard dim grant of (start_of pid image) is = tt
named_heard dim grant of (mail_of parcel) is = is
named_heard dim grant of (kill_of pid) is = tt
named_heard dim grant of (poll_of pid) is = tt
named_heard dim grant of (answer_of value) is = tt
named_heard dim grant of nothing is = tt

pub renaming : RenamedNodesAgree
unfolding outward_names
renaming dim grant node of is =
    let names = outward_names dim grant of in
    let named = named-from (IsBlockOf grant.dim) node is in
    (says-renamed names node named, λ images heard heard_is. hears-renamed names images node heard named (named_heard dim grant of heard heard_is))
