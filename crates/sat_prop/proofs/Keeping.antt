-- What the fields of watch lists keep, from call to call.
use Rattle.std.proofs.Common.{◌≡◌, ◌∙◌, ℕ, ◌%◌, ◌≤◌, ap, length, arith}
use Rattle.std.specs.Prelude.{vec_len, vec_capacity}
use Rattle.sat_prop.specs.declared.watch_lists.WatchLists.TheInside.{Inside}
use Rattle.sat_prop.specs.declared.watch_lists.TheConstants.{NO_WATCH}
use Rattle.sat_prop.specs.Watches.{AreWatchLists, IsWalk, WatchState, nexts_of, watches_of}
use Rattle.sat_prop.specs.View.{AreKeptLists, lists_view}
use Rattle.sat_prop.proofs.Nodes.{count_nexts}

-- so few that each has a number
pub few_nodes : (a : Inside) → AreKeptLists a → length a.nodes.items ≤ NO_WATCH
few_nodes a k = let l = a.nodes.ok.0 in let f = k.few in omega arith

pub few_links : (a : Inside) → AreKeptLists a → length (nexts_of a.nodes.items) ≤ NO_WATCH
few_links a k = let n = count_nexts a.nodes.items in let f = few_nodes a k in omega arith

-- after a call: what the fields keep, and that the state is one that it may lead to
pub record Becomes (a : Inside) (May : WatchState → Type 0) : Type 0 where
  pub kept : AreKeptLists a
  pub state : May (lists_view a)

-- where watches are as many as before, with as much room
pub kept_still : (a b : Inside) → AreKeptLists a → length b.nodes.items ≡ length a.nodes.items → vec_capacity b.nodes ≡ vec_capacity a.nodes → length b.lists.items ≡ length a.lists.items → b.spare ≡ a.spare
    → AreWatchLists (watches_of b.nodes.items) (nexts_of b.nodes.items) b.lists.items → IsWalk (nexts_of b.nodes.items) b.lists.items b.walk → AreKeptLists b
kept_still a b k nodes room lists spare stand walk =
    let was = a.nodes.ok.0 in
    let now = b.nodes.ok.0 in
    let count : vec_len b.nodes ≡ vec_len a.nodes = omega arith in
    record {
      lists = stand;
      walk = walk;
      limit = let l = k.limit in omega arith;
      pairs = ap (λ (n : ℕ). n % 2) count ∙ k.pairs;
      few = let f = k.few in omega arith;
      room = let r = k.room in omega arith;
    }
