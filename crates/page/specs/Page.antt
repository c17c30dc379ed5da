-- The page in reading order, for those who cite it; the formats (Numbers to Load) come after.
unfoldable pub use Rattle.page.specs.Host.{domains, vcpus, pcpus, vcpu, holder, times, each, over, best}
pub use Rattle.page.specs.Host.{Found, nobody, one}
unfoldable pub use Rattle.page.specs.Policy.{covers, account, weight, number, four, hold, put, set_weight}
unfoldable pub use Rattle.page.specs.Policy.{set_wake_boost, new_policy, new_policy_told}
pub use Rattle.page.specs.Policy.{PolicyTold}
unfoldable pub use Rattle.page.specs.Standing.{in_flight, service, deserving}
unfoldable pub use Rattle.page.specs.Next.{admits, is_idle, fits, lowest, place, runnable, waits, placeable}
unfoldable pub use Rattle.page.specs.Next.{somebody, beaten, loses_in, loses, pcpu_of, decided, next, limit}
unfoldable pub use Rattle.page.specs.Accounting.{pooled, in_pool, was_in_pool, floor, lifted, renewed, accounted}
unfoldable pub use Rattle.page.specs.Verdict.{names, vcpu_wrong, runs_on, pcpu_wrong, first}
unfoldable pub use Rattle.page.specs.Verdict.{first_violation, sound}
unfoldable pub use Rattle.page.specs.Calls.{refused, done, test, put_vcpu, put_holder, vc, full, into, ran_for}
unfoldable pub use Rattle.page.specs.Calls.{off, admitting, dispatching, preempting, blocking, waking}
unfoldable pub use Rattle.page.specs.Calls.{offlining, masking, asked, admit, run, preempt, block, wake}
unfoldable pub use Rattle.page.specs.Calls.{offline, set_affinity, called, offline_all, new_system, new_system_told}
pub use Rattle.page.specs.Calls.{Told}
unfoldable pub use Rattle.page.specs.Advance.{next_told, enact, settle, advance}
pub use Rattle.page.specs.Advance.{Recommended, Settled, Advanced}
