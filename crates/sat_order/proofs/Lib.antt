mod Queues
mod Ranks
